-- The macroticks of static slots, of the dynamic segment and after it, open or not.
use Rattle.std.proofs.Common.{◌≡◌, ℕ, ◌+◌, ◌-◌, ◌*◌, ◌/◌, ◌%◌, ◌<◌, ◌≤◌, Bool, true, false, List, [], refl, sym}
use Rattle.std.proofs.Common.{subst, arith, Option, Some, None, inl, inr}
use Rattle.std.specs.Prelude.{IfSome}
use Rattle.std.proofs.Common.{◌++◌, ◌∷◌, ◌&&◌, ◌||◌, ◌==◌, not, ap, ◌∙◌, get_or, length, replicate}
use Rattle.std.proofs.Math.ListN.{set}
use Rattle.std.proofs.lemmas.List.{length-replicate, get_or-replicate, length-set, get_or-set_same, get_or-set_other}
use Rattle.fr_slots.specs.Admission.{includes, cycle_admitted}
use Rattle.fr_slots.specs.Faults.{is_owned, claims}
use Rattle.fr_guardian.specs.GuardianFields.{AreOwnedSlots}
use Rattle.std.proofs.lemmas.Bool.{cases_lt, cases_eq, eqb-true, false_from_ne_true, and_parts}
use Rattle.std.proofs.lemmas.Bool.Decides.{nat_tests}
use Rattle.std.proofs.lemmas.Nat.{div-mul-add}
use Rattle.fr_slots.specs.declared.channel.Channel.{Channel}
use Rattle.fr_slots.specs.declared.plan.Own.{Own}
use Rattle.fr_slots.specs.Parameters.{Parameters, IsParameters}
use Rattle.fr_timing.specs.declared.place.Place.{Place}
use Rattle.fr_timing.specs.declared.place.Place.TheVariants.{Static, Minislot, Symbol, Idle}
use Rattle.fr_timing.specs.Division.{place_at}
use Rattle.fr_timing.specs.Segments.{dynamic_start, symbol_start, idle_start, cycle_end}
use Rattle.fr_timing.specs.Layout.{static_slot, part_of, IsAt}
use Rattle.fr_timing.proofs.LayoutLemmas.{located_found, located_only}
use Rattle.fr_guardian.specs.Intervals.{Span, AreMaximalIntervals, run}
use Rattle.fr_guardian.specs.Guarding.{is_open, IsOpenTo}
use Rattle.fr_guardian.proofs.SpanLemmas.{AllIn, NoneIn, AreBelow, none_below, closed_below, closed_last}

-- the place by division
at_place : (p : Parameters) → IsParameters p → (m : ℕ) (place : Place) → place_at p m ≡ Some place → IsAt p m place
at_place p lawful m place is = subst (λ (o : Option Place). IfSome o (λ x. IsAt p m x)) is
    (located_found p lawful m (place_at p m) refl)

-- ---- static slots

-- `earlier` static slots lie before the macrotick's slot
record IsInSlot (p : Parameters) (earlier m : ℕ) : Type 0 where
  below : earlier < p.static_slots
  from : earlier * p.static_mt ≤ m
  before : m < earlier * p.static_mt + p.static_mt

abbrev in_slot : Parameters → ℕ → ℕ → Place
in_slot p earlier m = Static (earlier + 1) (m % p.static_mt)

slot_divides : (p : Parameters) (earlier m : ℕ) → IsInSlot p earlier m → m / p.static_mt ≡ earlier
slot_divides p earlier m h =
    let offset : m ≡ earlier * p.static_mt + (m - earlier * p.static_mt) = omega arith in
    rw offset (div-mul-add earlier p.static_mt (m - earlier * p.static_mt) (omega arith))

slot_place : (p : Parameters) (earlier m : ℕ) → IsInSlot p earlier m → place_at p m ≡ Some (in_slot p earlier m)
unfolding place_at
slot_place p earlier m h =
    let divides = slot_divides p earlier m h in
    let fits : m < p.static_slots * p.static_mt = grind arith in
    grind (arith, nat_tests)

-- an open static slot
pub slot_open : (p : Parameters) → IsParameters p → (guarded : Bool) (owned : List Own) (cycle : ℕ) (channel : Channel)
    (earlier : ℕ)
    → earlier < p.static_slots → is_open guarded owned cycle channel (static_slot (earlier + 1)) ≡ true
    → AllIn (IsOpenTo p guarded owned cycle channel) (earlier * p.static_mt) (earlier * p.static_mt + p.static_mt)
slot_open p lawful guarded owned cycle channel earlier below opens m from before =
    record {
      place = in_slot p earlier m;
      at = at_place p lawful m _ (slot_place p earlier m (record { below = below; from = from; before = before }));
      opens = opens;
    }

-- a closed one
pub slot_closed : (p : Parameters) (guarded : Bool) (owned : List Own) (cycle : ℕ) (channel : Channel) (earlier : ℕ)
    → earlier < p.static_slots → is_open guarded owned cycle channel (static_slot (earlier + 1)) ≡ false
    → NoneIn (IsOpenTo p guarded owned cycle channel) (earlier * p.static_mt) (earlier * p.static_mt + p.static_mt)
slot_closed p guarded owned cycle channel earlier below closed m from before h =
    let here = located_only p m (place_at p m) refl h.place h.at in
    let there = slot_place p earlier m (record { below = below; from = from; before = before }) in
    let same : h.place ≡ in_slot p earlier m = cc in
    let opens = subst (λ (x : Place). is_open guarded owned cycle channel (part_of x) ≡ true) same h.opens in
    cc

-- ---- the dynamic segment, and the rest of the cycle

dynamic_place : (p : Parameters) (m : ℕ) → dynamic_start p ≤ m → m < symbol_start p
    → place_at p m ≡ Some (Minislot ((m - dynamic_start p) / p.minislot_mt + 1) ((m - dynamic_start p) % p.minislot_mt))
unfolding place_at
dynamic_place p m from before = grind (arith, nat_tests)

pub dynamic_open : (p : Parameters) → IsParameters p → (guarded : Bool) (owned : List Own) (cycle : ℕ)
    (channel : Channel)
    → AllIn (IsOpenTo p guarded owned cycle channel) (dynamic_start p) (symbol_start p)
dynamic_open p lawful guarded owned cycle channel m from before =
    record { place = _; at = at_place p lawful m _ (dynamic_place p m from before); opens = refl }

-- a macrotick after the dynamic segment is in the symbol window, in the network idle time or in no place
data IsBehind (found : Option Place) : Type 0 where
  of_symbol : (offset : ℕ) → found ≡ Some (Symbol offset) → IsBehind found
  of_idle : (offset : ℕ) → found ≡ Some (Idle offset) → IsBehind found
  of_none : found ≡ None → IsBehind found

symbol_place : (p : Parameters) (m : ℕ) → symbol_start p ≤ m → m < idle_start p
    → place_at p m ≡ Some (Symbol (m - symbol_start p))
unfolding place_at
symbol_place p m from before = grind (arith, nat_tests)

idle_place : (p : Parameters) (m : ℕ) → idle_start p ≤ m → m < cycle_end p
    → place_at p m ≡ Some (Idle (m - idle_start p))
unfolding place_at
idle_place p m from before = grind (arith, nat_tests)

no_place : (p : Parameters) (m : ℕ) → cycle_end p ≤ m → place_at p m ≡ None
unfolding place_at
no_place p m from = grind (arith, nat_tests)

behind_place : (p : Parameters) (m : ℕ) → symbol_start p ≤ m → IsBehind (place_at p m)
behind_place p m from =
    elim (cases_lt m (idle_start p)) [
      | inl in_symbol ↦ of_symbol _ (symbol_place p m from in_symbol)
      | inr after ↦
          elim (cases_lt m (cycle_end p)) [
            | inl in_idle ↦ of_idle _ (idle_place p m after in_idle)
            | inr last ↦ of_none (no_place p m last)
          ]
    ]

never_open : (guarded : Bool) (owned : List Own) (cycle : ℕ) (channel : Channel) (place other : Place) → place ≡ other
    → is_open guarded owned cycle channel (part_of other) ≡ false
    → is_open guarded owned cycle channel (part_of place) ≡ true → ⊥
never_open guarded owned cycle channel place other same closed opens =
    let there = subst (λ (x : Place). is_open guarded owned cycle channel (part_of x) ≡ true) same opens in
    cc

pub behind_closed : (p : Parameters) (guarded : Bool) (owned : List Own) (cycle : ℕ) (channel : Channel) (m : ℕ)
    → symbol_start p ≤ m → IsOpenTo p guarded owned cycle channel m → ⊥
behind_closed p guarded owned cycle channel m from h =
    let here = located_only p m (place_at p m) refl h.place h.at in
    elim (behind_place p m from) [
      | of_symbol offset is ↦ never_open guarded owned cycle channel h.place (Symbol offset) (cc) refl h.opens
      | of_idle offset is ↦ never_open guarded owned cycle channel h.place (Idle offset) (cc) refl h.opens
      | of_none is ↦ absurd (cc)
    ]

-- ---- the invariant of the loop

-- the intervals before `since`, from which everything is open up to `upto`
pub record IsFound (p : Parameters) (guarded : Bool) (owned : List Own) (cycle : ℕ) (channel : Channel) (since upto : ℕ)
    (spans : List Span) : Type 0 where
  pub below : AreBelow (IsOpenTo p guarded owned cycle channel) since spans
  pub ordered : since ≤ upto
  pub inside : AllIn (IsOpenTo p guarded owned cycle channel) since upto

next_slot : (earlier size : ℕ) → (earlier + 1) * size ≡ earlier * size + size
next_slot earlier size = omega arith

module _ (p : Parameters) (lawful : IsParameters p) (guarded : Bool) (owned : List Own) (cycle : ℕ)
    (channel : Channel) where
  pub found_none : IsFound p guarded owned cycle channel 0 (0 * p.static_mt) []
  found_none = record {
    below = none_below (IsOpenTo p guarded owned cycle channel);
    ordered = omega arith;
    inside =
        λ m from before. absurd (omega arith);
  }

  pub found_open : (earlier since : ℕ) (xs : List Span) → earlier < p.static_slots
      → IsFound p guarded owned cycle channel since (earlier * p.static_mt) xs
      → is_open guarded owned cycle channel (static_slot (earlier + 1)) ≡ true
      → IsFound p guarded owned cycle channel since ((earlier + 1) * p.static_mt) xs
  found_open earlier since xs below h opens =
      record {
        below = h.below;
        ordered = omega (arith, h.ordered, next_slot earlier p.static_mt);
        inside = λ m from before.
            elim (cases_lt m (earlier * p.static_mt)) [
              | inl sooner ↦ h.inside m from sooner
              | inr here ↦ slot_open p lawful guarded owned cycle channel earlier below opens m here
                  (omega (arith, next_slot earlier p.static_mt))
            ];
      }

  pub found_closed : (earlier since : ℕ) (xs : List Span) → earlier < p.static_slots
      → IsFound p guarded owned cycle channel since (earlier * p.static_mt) xs
      → is_open guarded owned cycle channel (static_slot (earlier + 1)) ≡ false
      → IsFound p guarded owned cycle channel (earlier * p.static_mt + p.static_mt) ((earlier + 1) * p.static_mt)
      (xs ++ run since (earlier * p.static_mt))
  found_closed earlier since xs below h closed =
      record {
        below = closed_below (IsOpenTo p guarded owned cycle channel) xs since (earlier * p.static_mt)
            (earlier * p.static_mt + p.static_mt) h.below h.ordered h.inside
            (omega (arith, lawful.static_mt_fit.from_least))
            (slot_closed p guarded owned cycle channel earlier below closed);
        ordered = omega (arith, next_slot earlier p.static_mt);
        inside = λ m from before. absurd (omega (arith, next_slot earlier p.static_mt));
      }

  pub found_all : (since : ℕ) (xs : List Span) → IsFound p guarded owned cycle channel since
      (p.static_slots * p.static_mt) xs
      → AreMaximalIntervals (IsOpenTo p guarded owned cycle channel)
      (xs ++ run since (p.static_slots * p.static_mt + p.minislots * p.minislot_mt))
  found_all since xs h =
      closed_last (IsOpenTo p guarded owned cycle channel) xs since (symbol_start p) h.below (omega (arith, h.ordered))
      (λ m from before.
      elim (cases_lt m (dynamic_start p)) [
        | inl sooner ↦ h.inside m from sooner
        | inr here ↦ dynamic_open p lawful guarded owned cycle channel m here before
      ])
      (λ m from inside. behind_closed p guarded owned cycle channel m from inside)

  -- the same, with the length of a slot under another name
  pub step_open : (size earlier since : ℕ) (xs : List Span) → size ≡ p.static_mt → earlier < p.static_slots
      → IsFound p guarded owned cycle channel since (earlier * size) xs
      → is_open guarded owned cycle channel (static_slot (earlier + 1)) ≡ true
      → IsFound p guarded owned cycle channel since ((earlier + 1) * size) xs
  step_open size earlier since xs is below h opens =
      subst (λ n. IsFound p guarded owned cycle channel since ((earlier + 1) * n) xs) (sym is)
      (found_open earlier since xs below (subst (λ n. IsFound p guarded owned cycle channel since (earlier * n) xs) is
      h) opens)

  pub step_closed : (size earlier since : ℕ) (xs : List Span) → size ≡ p.static_mt → earlier < p.static_slots
      → IsFound p guarded owned cycle channel since (earlier * size) xs
      → is_open guarded owned cycle channel (static_slot (earlier + 1)) ≡ false
      → IsFound p guarded owned cycle channel (earlier * size + size) ((earlier + 1) * size)
      (xs ++ run since (earlier * size))
  step_closed size earlier since xs is below h closed =
      subst (λ n. IsFound p guarded owned cycle channel (earlier * n + n) ((earlier + 1) * n)
      (xs ++ run since (earlier * n))) (sym is)
      (found_closed earlier since xs below (subst (λ n. IsFound p guarded owned cycle channel since (earlier * n) xs) is
      h) closed)

  pub step_last : (size slots since end : ℕ) (xs : List Span) → size ≡ p.static_mt → slots ≡ p.static_slots
      → end ≡ symbol_start p → IsFound p guarded owned cycle channel since (slots * size) xs
      → AreMaximalIntervals (IsOpenTo p guarded owned cycle channel) (xs ++ run since end)
  step_last size slots since end xs a b same h =
      let upto : slots * size ≡ p.static_slots * p.static_mt = cc in
      subst (λ n. AreMaximalIntervals (IsOpenTo p guarded owned cycle channel) (xs ++ run since n)) (sym same)
      (found_all since xs (subst (λ n. IsFound p guarded owned cycle channel since n xs) upto h))

pub same_found : (p : Parameters) (guarded : Bool) (owned : List Own) (cycle : ℕ) (channel : Channel)
    (since other upto : ℕ) (xs ys : List Span) → since ≡ other → xs ≡ ys
    → IsFound p guarded owned cycle channel other upto ys → IsFound p guarded owned cycle channel since upto xs
same_found p guarded owned cycle channel since other upto xs ys a b h =
    subst (λ n. IsFound p guarded owned cycle channel n upto xs) (sym a)
    (subst (λ (zs : List Span). IsFound p guarded owned cycle channel other upto zs) (sym b) h)

-- ---- the slots that a node owns

pub owned_none : (owned : List Own) (cycle : ℕ) (channel : Channel) (slots : List Bool) → owned ≡ []
    → slots ≡ replicate 2048 false
    → AreOwnedSlots owned cycle channel slots
owned_none owned cycle channel slots none is = record {
  size = ap length is ∙ length-replicate 2048 false;
  each = λ slot below.
      ap (λ (xs : List Bool). get_or xs slot false) is ∙ get_or-replicate 2048 slot false false below
      ∙ sym (ap (λ (os : List Own). is_owned os slot channel cycle) none);
}

any_more : (owned : List Own) (own : Own) (slot : ℕ) (channel : Channel) (cycle : ℕ)
    → is_owned (owned ++ own ∷ []) slot channel cycle ≡ (is_owned owned slot channel cycle
    || claims slot channel cycle own)
any_more [] own slot channel cycle = or_none (claims slot channel cycle own)
  where
    or_none : (b : Bool) → (b || false) ≡ b
    or_none true = refl
    or_none false = refl
any_more (o ∷ owned) own slot channel cycle =
    ap (λ (b : Bool). claims slot channel cycle o || b) (any_more owned own slot channel cycle)
    ∙ regroup (claims slot channel cycle o) (is_owned owned slot channel cycle) (claims slot channel cycle own)
  where
    regroup : (a b c : Bool) → (a || (b || c)) ≡ (a || b || c)
    regroup true b c = refl
    regroup false b c = refl

or_nothing : (a b : Bool) → b ≡ false → (a || b) ≡ a
or_nothing true b is = refl
or_nothing false b is = is

or_one : (a b : Bool) → b ≡ true → (a || b) ≡ true
or_one true b is = refl
or_one false b is = is

-- a line claims only its own slot
other_slot : (own : Own) (slot : ℕ) (channel : Channel) (cycle : ℕ) → (slot ≡ own.slot → ⊥)
    → claims slot channel cycle own ≡ false
other_slot own slot channel cycle other =
    false_from_ne_true (claims slot channel cycle own) (λ pass.
    let (front, in_cycle) = and_parts (own.slot == slot && includes own.channels channel)
    (cycle_admitted own.cycles cycle) pass in
    let (same, includes_it) = and_parts (own.slot == slot) (includes own.channels channel) front in
    other (sym (eqb-true own.slot slot same)))

-- a line that doesn't claim its own slot claims none
pub owned_apart : (owned : List Own) (own : Own) (cycle : ℕ) (channel : Channel) (slots : List Bool)
    → AreOwnedSlots owned cycle channel slots
    → claims own.slot channel cycle own ≡ false → AreOwnedSlots (owned ++ own ∷ []) cycle channel slots
owned_apart owned own cycle channel slots h apart = record {
  size = h.size;
  each = λ slot below.
      h.each slot below
      ∙ sym (any_more owned own slot channel cycle ∙ or_nothing (is_owned owned slot channel cycle)
      (claims slot channel cycle own) (unclaimed slot));
}
  where
    unclaimed : (slot : ℕ) → claims slot channel cycle own ≡ false
    unclaimed slot =
        elim (cases_eq slot own.slot) [
          | inl same ↦ ap (λ k. claims k channel cycle own) same ∙ apart
          | inr other ↦ other_slot own slot channel cycle other
        ]

pub owned_more : (owned : List Own) (own : Own) (cycle : ℕ) (channel : Channel) (slots : List Bool)
    → AreOwnedSlots owned cycle channel slots
    → claims own.slot channel cycle own ≡ true → own.slot < 2048
    → AreOwnedSlots (owned ++ own ∷ []) cycle channel (set slots own.slot true)
owned_more owned own cycle channel slots h claimed within = record {
  size = length-set slots own.slot true ∙ h.size;
  each = λ slot below.
      elim (cases_eq slot own.slot) [
        | inl same ↦
            ap (λ k. get_or (set slots own.slot true) k false) same
            ∙ get_or-set_same slots own.slot true false (omega (arith, h.size, within))
            ∙ sym (any_more owned own slot channel cycle
            ∙ or_one (is_owned owned slot channel cycle) (claims slot channel cycle own)
            (ap (λ k. claims k channel cycle own) same ∙ claimed))
        | inr other ↦
            get_or-set_other slots own.slot slot true false other
            ∙ h.each slot below
            ∙ sym (any_more owned own slot channel cycle
            ∙ or_nothing (is_owned owned slot channel cycle) (claims slot channel cycle own)
            (other_slot own slot channel cycle other))
      ];
}

-- an open slot, by the slots that the node owns
pub open_by_slots : (owned : List Own) (cycle : ℕ) (channel : Channel) (slots : List Bool) (guarded : Bool) (number : ℕ)
    → AreOwnedSlots owned cycle channel slots
    → number < 2048 → (not guarded || get_or slots number false) ≡ is_open guarded owned cycle channel
    (static_slot number)
open_by_slots owned cycle channel slots guarded number h below =
    ap (λ (b : Bool). not guarded || b) (h.each number below)
