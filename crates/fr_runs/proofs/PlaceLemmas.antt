-- Windows that two places name.
use Rattle.std.proofs.Common.{◌≡◌, ℕ, ◌≤◌, Bool, true, false, ◌&&◌, ◌||◌, Option, Some, None, refl, sym, ◌∙◌, arith}
use Rattle.std.specs.Prelude.{◌==◌, nat_le, not}
use Rattle.std.proofs.lemmas.Bool.{eqb-true, leb-true, le-leb}
use Rattle.fr_core.proofs.CaseLemmas.{both, both_first, both_rest, differ}
use Rattle.fr_core.proofs.ScriptLemmas.{eqb_of}
use Rattle.fr_runs.specs.declared.fault_line.FaultPlace.{FaultPlace}
use Rattle.fr_runs.specs.declared.fault_line.FaultPlace.TheVariants.{EveryWindow, EverySlot, Slot, Slots}
use Rattle.fr_runs.specs.declared.fault_line.FaultPlace.TheVariants.{EveryMinislot, Minislot, Dynamic}
use Rattle.fr_runs.specs.Striking.{opens, opens_one, names_window}
use Rattle.fr_runs.specs.Suiting.{agree, dynamic_of, first_static, has_dynamic, has_static, in_order, last_static}
use Rattle.fr_runs.specs.Suiting.{minislot_of, minislots_meet, places_meet, slots_meet}
use Rattle.fr_slots.specs.declared.channel.Channel.{Channel}
use Rattle.fr_slots.specs.Windows.{Opportunity, is_static, slot_of}

-- ---- limits of a slot or minislot

-- the number is at least the first
abbrev IsFrom : Option ℕ → Option ℕ → Type 0
IsFrom None number = Unit {0}
IsFrom (Some first) None = ⊥
IsFrom (Some first) (Some number) = first ≤ number

-- the number is at most the last
abbrev IsUpTo : Option ℕ → Option ℕ → Type 0
IsUpTo None number = Unit {0}
IsUpTo (Some last) None = ⊥
IsUpTo (Some last) (Some number) = number ≤ last

-- the number is the one named
abbrev IsOne : Option ℕ → Option ℕ → Type 0
IsOne None number = Unit {0}
IsOne (Some one) None = ⊥
IsOne (Some one) (Some number) = number ≡ one

ordered : (first last number : Option ℕ) → IsFrom first number → IsUpTo last number → in_order first last ≡ true
ordered None last number from upto = refl
ordered (Some first) None number from upto = refl
ordered (Some first) (Some last) None from upto = absurd from
ordered (Some first) (Some last) (Some number) from upto = le-leb first last (omega (arith, from, upto))

agreed : (one other number : Option ℕ) → IsOne one number → IsOne other number → agree one other ≡ true
agreed None other number is also = refl
agreed (Some one) None number is also = refl
agreed (Some one) (Some other) None is also = absurd is
agreed (Some one) (Some other) (Some number) is also = eqb_of one other (sym is ∙ also)

is_open : (number : ℕ) (o : Option ℕ) → opens number o ≡ true → IsOne (Some number) o
is_open number None named = absurd (let none : ⊥ = cc in none)
is_open number (Some slot) named = eqb-true slot number named

open_from : (first last : ℕ) (o : Option ℕ) → opens_one first last o ≡ true → IsFrom (Some first) o
open_from first last None named = absurd (let none : ⊥ = cc in none)
open_from first last (Some slot) named = leb-true first slot (both_first (nat_le first slot) (nat_le slot last) named)

open_up_to : (first last : ℕ) (o : Option ℕ) → opens_one first last o ≡ true → IsUpTo (Some last) o
open_up_to first last None named = absurd (let none : ⊥ = cc in none)
open_up_to first last (Some slot) named = leb-true slot last (both_rest (nat_le first slot) (nat_le slot last) named)

one_from : (number : ℕ) (o : Option ℕ) → IsOne (Some number) o → IsFrom (Some number) o
one_from number None is = absurd is
one_from number (Some slot) is = omega (arith, is)

one_up_to : (number : ℕ) (o : Option ℕ) → IsOne (Some number) o → IsUpTo (Some number) o
one_up_to number None is = absurd is
one_up_to number (Some slot) is = omega (arith, is)

-- ---- a place that names the window

not_both : {X : Type 0} (b : Bool) → b ≡ true → not b ≡ true → X
not_both true e f = absurd (let none : ⊥ = cc in none)
not_both false e f = absurd (let none : ⊥ = cc in none)

module _ (channel : Channel) (w : Opportunity) where
  in_static : (p : FaultPlace) → names_window p channel w ≡ true → is_static w ≡ true → has_static p ≡ true
  in_static EveryWindow named static = refl
  in_static EverySlot named static = refl
  in_static (Slot number) named static = refl
  in_static (Slots first last) named static = refl
  in_static EveryMinislot named static = not_both (is_static w) static named
  in_static (Minislot number) named static =
      not_both (is_static w) static (both_first (not (is_static w)) (w.minislot == number) named)
  in_static (Dynamic number) named static =
      not_both (is_static w) static (both_first (not (is_static w)) (opens number (slot_of w channel)) named)

  in_dynamic : (p : FaultPlace) → names_window p channel w ≡ true → is_static w ≡ false → has_dynamic p ≡ true
  in_dynamic EveryWindow named other = refl
  in_dynamic EverySlot named other = differ named other
  in_dynamic (Slot number) named other = differ (both_first (is_static w) (opens number w.a) named) other
  in_dynamic (Slots first last) named other = differ (both_first (is_static w) (opens_one first last w.a) named) other
  in_dynamic EveryMinislot named other = refl
  in_dynamic (Minislot number) named other = refl
  in_dynamic (Dynamic number) named other = refl

  from_first : (p : FaultPlace) → names_window p channel w ≡ true → IsFrom (first_static p) w.a
  from_first EveryWindow named = tt
  from_first EverySlot named = tt
  from_first (Slot number) named =
      one_from number w.a (is_open number w.a (both_rest (is_static w) (opens number w.a) named))
  from_first (Slots first last) named =
      open_from first last w.a (both_rest (is_static w) (opens_one first last w.a) named)
  from_first EveryMinislot named = tt
  from_first (Minislot number) named = tt
  from_first (Dynamic number) named = tt

  up_to_last : (p : FaultPlace) → names_window p channel w ≡ true → IsUpTo (last_static p) w.a
  up_to_last EveryWindow named = tt
  up_to_last EverySlot named = tt
  up_to_last (Slot number) named =
      one_up_to number w.a (is_open number w.a (both_rest (is_static w) (opens number w.a) named))
  up_to_last (Slots first last) named =
      open_up_to first last w.a (both_rest (is_static w) (opens_one first last w.a) named)
  up_to_last EveryMinislot named = tt
  up_to_last (Minislot number) named = tt
  up_to_last (Dynamic number) named = tt

  at_minislot : (p : FaultPlace) → names_window p channel w ≡ true → IsOne (minislot_of p) (Some w.minislot)
  at_minislot EveryWindow named = tt
  at_minislot EverySlot named = tt
  at_minislot (Slot number) named = tt
  at_minislot (Slots first last) named = tt
  at_minislot EveryMinislot named = tt
  at_minislot (Minislot number) named =
      eqb-true w.minislot number (both_rest (not (is_static w)) (w.minislot == number) named)
  at_minislot (Dynamic number) named = tt

  at_dynamic : (p : FaultPlace) → names_window p channel w ≡ true → IsOne (dynamic_of p) (slot_of w channel)
  at_dynamic EveryWindow named = tt
  at_dynamic EverySlot named = tt
  at_dynamic (Slot number) named = tt
  at_dynamic (Slots first last) named = tt
  at_dynamic EveryMinislot named = tt
  at_dynamic (Minislot number) named = tt
  at_dynamic (Dynamic number) named = is_open number (slot_of w channel)
      (both_rest (not (is_static w)) (opens number (slot_of w channel)) named)

  share_slot : (p q : FaultPlace) → names_window p channel w ≡ true → names_window q channel w ≡ true
      → slots_meet p q ≡ true
  share_slot p q e f =
      both (in_order (first_static p) (last_static q)) (in_order (first_static q) (last_static p))
      (ordered (first_static p) (last_static q) w.a (from_first p e) (up_to_last q f))
      (ordered (first_static q) (last_static p) w.a (from_first q f) (up_to_last p e))

  share_minislot : (p q : FaultPlace) → names_window p channel w ≡ true → names_window q channel w ≡ true
      → minislots_meet p q ≡ true
  share_minislot p q e f =
      both (agree (minislot_of p) (minislot_of q)) (agree (dynamic_of p) (dynamic_of q))
      (agreed (minislot_of p) (minislot_of q) (Some w.minislot) (at_minislot p e) (at_minislot q f))
      (agreed (dynamic_of p) (dynamic_of q) (slot_of w channel) (at_dynamic p e) (at_dynamic q f))

left_of : (a b : Bool) → a ≡ true → (a || b) ≡ true
left_of true b e = refl
left_of false b e = absurd (let none : ⊥ = cc in none)

right_of : (a b : Bool) → b ≡ true → (a || b) ≡ true
right_of true b e = refl
right_of false b e = e

-- both places name the window for a fault on one channel
pub places_both : (channel : Channel) (w : Opportunity) (p q : FaultPlace) → names_window p channel w ≡ true
    → names_window q channel w ≡ true → places_meet p q ≡ true
places_both channel w p q e f = by (is_static w) refl
  where
    by : (b : Bool) → is_static w ≡ b → places_meet p q ≡ true
    by true is =
        left_of (has_static p && has_static q && slots_meet p q) (has_dynamic p && has_dynamic q && minislots_meet p q)
        (both (has_static p && has_static q) (slots_meet p q)
        (both (has_static p) (has_static q) (in_static channel w p e is) (in_static channel w q f is))
        (share_slot channel w p q e f))
    by false is =
        right_of (has_static p && has_static q && slots_meet p q) (has_dynamic p && has_dynamic q && minislots_meet p q)
        (both (has_dynamic p && has_dynamic q) (minislots_meet p q)
        (both (has_dynamic p) (has_dynamic q) (in_dynamic channel w p e is) (in_dynamic channel w q f is))
        (share_minislot channel w p q e f))
