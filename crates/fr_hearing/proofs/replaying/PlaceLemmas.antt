-- The place in a cycle after a frame, and the lane of a channel after a window.
use Rattle.std.proofs.Common.{◌≡◌, ℕ, ◌+◌, ◌%◌, ◌⊎◌, ◌≤◌, Bool, true, false, cond, List, ◌∷◌, Option, Some, None, refl}
use Rattle.std.proofs.Common.{sym, ap, ◌∙◌, arith, inl, inr, is_some}
use Rattle.std.specs.Prelude.{nat_le}
use Rattle.std.proofs.lemmas.Bool.{leb-true, leb-false, eq-eqb}
use Rattle.std.proofs.lemmas.Bool.Decides.{eqb_tells}
use Rattle.fr_bus.specs.Courses.{Standpoint, cycle_of, first_passed}
use Rattle.fr_bus.specs.Outcome.{longest}
use Rattle.fr_bus.specs.Record.{Recorded}
use Rattle.fr_frame.specs.Fields.{Fields}
use Rattle.fr_hearing.proofs.NextLemmas.{static_passed, dynamic_passed, lane_passed, lane_of, opened_is}
use Rattle.fr_hearing.specs.Replays.{cycles_after}
use Rattle.fr_minislot.specs.Lanes.{Standing, closed, opened_in}
use Rattle.fr_slots.proofs.PlaceLemmas.{same_some}
use Rattle.fr_slots.specs.declared.channel.Channel.{Channel}
use Rattle.fr_slots.specs.declared.channel.Channel.TheVariants.{A, B}

pub lane_static : (channel : Channel) (c : Standpoint) → lane_of channel (static_passed c) ≡ lane_of channel c
lane_static A c = refl
lane_static B c = refl

pub lane_dynamic : (channel : Channel) (c : Standpoint) (m : ℕ) (r : Recorded)
    → lane_of channel (dynamic_passed c m (longest A r.sent) (longest B r.sent))
    ≡ lane_passed (lane_of channel c) m (longest channel r.sent)
lane_dynamic A c m r = refl
lane_dynamic B c m r = refl

pub lane_first : (channel : Channel) (c : Standpoint)
    → (lane_of channel (first_passed c)).slot ≡ c.params.static_slots + 1
lane_first A c = (let same : c.params.static_slots + 1 + 0 ≡ c.params.static_slots + 1 = omega arith in same)
lane_first B c = (let same : c.params.static_slots + 1 + 0 ≡ c.params.static_slots + 1 = omega arith in same)

pub strictly : (x y : ℕ) → x ≤ y → (x ≡ y → ⊥) → x + 1 ≤ y
strictly x y low apart = by (nat_le (x + 1) y) refl
  where
    by : (b : Bool) → nat_le (x + 1) y ≡ b → x + 1 ≤ y
    by true f = leb-true (x + 1) y f
    by false f = absurd (apart (let under = leb-false (x + 1) y f in omega (arith, under, low)))

-- a lane that passes another slot than this one
pub passed_slot : (lane : Standing) (m bytes id : ℕ) → lane.slot ≤ id → (opened_in lane m ≡ Some id → ⊥)
    → (lane_passed lane m bytes).slot ≤ id
passed_slot lane m bytes id few other = by (opened_in lane m) refl
  where
    by : (o : Option ℕ) → opened_in lane m ≡ o
        → (let l : Standing = cond (is_some o) (closed lane bytes) lane in l).slot ≤ id
    by None e = few
    by (Some k) e = elim (eqb_tells lane.slot id) [
      | inl same ↦ absurd (other (e ∙ ap Some ((opened_is lane m k e).slot_is ∙ same.1)))
      | inr differs ↦ strictly lane.slot id few differs.1
    ]

pub next_slot : (lane : Standing) (m bytes id : ℕ) → opened_in lane m ≡ Some id
    → (lane_passed lane m bytes).slot ≡ id + 1
next_slot lane m bytes id e =
    ap (λ (o : Option ℕ). (let l : Standing = cond (is_some o) (closed lane bytes) lane in l).slot) e
    ∙ ap (λ (n : ℕ). n + 1) (sym (opened_is lane m id e).slot_is)

pub later_by : (cycle : ℕ) (fs : List Fields) (f : Fields) → f.cycle ≡ cycle
    → cycles_after cycle (f ∷ fs) ≡ cycles_after cycle fs
later_by cycle fs f same =
    (λ i. cond (eq-eqb f.cycle cycle same i) 0 1 + cycles_after (same i) fs)
    ∙ (let none : 0 + cycles_after cycle fs ≡ cycles_after cycle fs = omega arith in none)

pub same_slot : (o : Option ℕ) (id : ℕ) → (o ≡ Some id) ⊎ (o ≡ Some id → ⊥)
same_slot None id = inr (λ e. let none : ⊥ = cc in none)
same_slot (Some k) id = elim (eqb_tells k id) [
  | inl same ↦ inl (ap Some same.1)
  | inr other ↦ inr (λ e. other.1 (same_some k id e))
]

-- the count of the cycle that follows
pub cycle_after : (c : Standpoint) (s x : ℕ) → 1 ≤ c.begun → s ≡ cycle_of c → x ≡ (s + 1) % 64 → x ≡ c.begun % 64
cycle_after c s x some is next = omega (arith, some, is, next)
