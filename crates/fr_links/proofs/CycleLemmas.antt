-- The class with the greater repetition has only cycles of the other class, if they have one in common.
use Rattle.std.proofs.Common.{◌≡◌, ℕ, ◌%◌, ◌<◌, ◌≤◌, ◌==◌, leb, not, Bool, true, false, ◌&&◌, ◌||◌, List, [], ◌∷◌}
use Rattle.std.proofs.Common.{Option, Some, None, refl, sym, ap, ◌∙◌, inl, inr, arith}
use Rattle.std.specs.List.{list_any, list_all}
use Rattle.std.specs.Prelude.{if◌then◌else◌}
use Rattle.std.proofs.lemmas.Bool.{cases_Bool, eqb-true, eq-eqb, and_parts, or_cases, le-leb}
use Rattle.std.proofs.Math.Nat.{mod-mod_of_dvd}
use Rattle.std.proofs.lemmas.Nat.Gcd.{dvd_of_mod-eq-zero}
use Rattle.fr_slots.specs.Admission.{CycleClass, IsCycleClass, cycle_admitted, is_repetition, repetitions}
use Rattle.fr_slots.specs.Faults.{common_in, first_common}
use Rattle.fr_slots.specs.Numbers.{cycle_count}
use Rattle.fr_links.specs.Cycles.{AreShared}
use Rattle.fr_slots.proofs.FaultLemmas.{first-none, first-some}
use Rattle.fr_slots.proofs.FaultlessLemmas.{cond_none}

-- a test that each number of a list passes holds for each number in it
of_each : (test : ℕ → Bool) (n : ℕ) (xs : List ℕ) → list_any (λ x. n == x) xs ≡ true → list_all test xs ≡ true
    → test n ≡ true
of_each test n [] any all = cc any
of_each test n (x ∷ xs) any all =
    let (here, later) = and_parts (test x) (list_all test xs) all in
    elim (or_cases (n == x) (list_any (λ y. n == y) xs) any) [
      | inl same ↦ ap test (eqb-true n x same) ∙ here
      | inr other ↦ of_each test n xs other later
    ]

-- a repetition divides each repetition that isn't less
abbrev divides : ℕ → ℕ → Bool
divides most r = not (leb r most) || most % r == 0

no_rest : (most r : ℕ) → is_repetition most ≡ true → is_repetition r ≡ true → r ≤ most → most % r ≡ 0
no_rest most r is_most is_r le =
    let all = of_each (λ m. list_all (divides m) repetitions) most repetitions is_most refl in
    let here = of_each (divides most) r repetitions is_r all in
    eqb-true (most % r) 0 (ap (λ b. not b || most % r == 0) (sym (le-leb r most le)) ∙ here)

-- two cycles of the rarer class are both in the other class, or neither is
same_rest : (c d : CycleClass) → IsCycleClass c → IsCycleClass d → c.repetition ≤ d.repetition
    → (k cycle : ℕ) → k % d.repetition ≡ d.base → cycle % d.repetition ≡ d.base
    → cycle % c.repetition ≡ k % c.repetition
same_rest c d is_c is_d le k cycle of_k of_cycle =
    let divided = dvd_of_mod-eq-zero c.repetition (no_rest d.repetition c.repetition is_d.repetition_is
    is_c.repetition_is le) in
    sym (mod-mod_of_dvd c.repetition cycle divided) ∙ ap (λ n. n % c.repetition) (of_cycle ∙ sym of_k)
    ∙ mod-mod_of_dvd c.repetition k divided

right_false : (a b : Bool) → b ≡ false → (a && b) ≡ false
right_false true b is = is
right_false false b is = refl

other_way : (a b : Bool) → (a && b) ≡ (b && a)
other_way true true = refl
other_way true false = refl
other_way false true = refl
other_way false false = refl

cond_some : (b : Bool) (x y : ℕ) → ◌≡◌ {A = Option ℕ} (if b then Some x else None) (Some y) → b ≡ true
cond_some true x y is = refl
cond_some false x y is = cc is

pub rarer_within : (c d : CycleClass) → IsCycleClass c → IsCycleClass d → c.repetition ≤ d.repetition
    → (k : ℕ) → (cycle_admitted c k && cycle_admitted d k) ≡ true
    → (cycle : ℕ) → cycle_admitted d cycle ≡ (cycle_admitted c cycle && cycle_admitted d cycle)
rarer_within c d is_c is_d le k both cycle =
    let (in_c, in_d) = and_parts (cycle_admitted c k) (cycle_admitted d k) both in
    elim (cases_Bool (cycle_admitted d cycle)) [
      | inl admitted ↦
          (let rest = same_rest c d is_c is_d le k cycle (eqb-true _ _ in_d) (eqb-true _ _ admitted) in
          let also : cycle_admitted c cycle ≡ true = eq-eqb _ _ (rest ∙ eqb-true _ _ in_c) in
          admitted ∙ sym (ap (λ a. a && cycle_admitted d cycle) also ∙ admitted))
      | inr other ↦ other ∙ sym (right_false (cycle_admitted c cycle) (cycle_admitted d cycle) other)
    ]

-- the first common cycle is one of both
common_of : (c d : CycleClass) (k : ℕ) → first_common c d ≡ Some k
    → (n : ℕ) × ((cycle_admitted c n && cycle_admitted d n) ≡ true)
common_of c d k first =
    let (n, is) = first-some (common_in c d) 0 cycle_count k first in
    (n, cond_some (cycle_admitted c n && cycle_admitted d n) n k is.found)

-- without one, no cycle is in both
pub none_common : (c d : CycleClass) → first_common c d ≡ None
    → (cycle : ℕ) → cycle < cycle_count → (cycle_admitted c cycle && cycle_admitted d cycle) ≡ false
none_common c d first cycle below =
    cond_none (cycle_admitted c cycle && cycle_admitted d cycle) cycle
    (first-none (common_in c d) 0 cycle_count first cycle (omega arith) (omega arith))

-- the second class is the rarer one, and then the first
pub second_shared : (c d : CycleClass) → IsCycleClass c → IsCycleClass d → (k : ℕ) → first_common c d ≡ Some k
    → c.repetition ≤ d.repetition → AreShared c d d
second_shared c d is_c is_d k first le cycle below =
    let (n, both) = common_of c d k first in
    rarer_within c d is_c is_d le n both cycle

pub first_shared : (c d : CycleClass) → IsCycleClass c → IsCycleClass d → (k : ℕ) → first_common c d ≡ Some k
    → d.repetition ≤ c.repetition → AreShared c d c
first_shared c d is_c is_d k first le cycle below =
    let (n, both) = common_of c d k first in
    rarer_within d c is_d is_c le n (other_way (cycle_admitted d n) (cycle_admitted c n) ∙ both) cycle
    ∙ other_way (cycle_admitted d cycle) (cycle_admitted c cycle)
