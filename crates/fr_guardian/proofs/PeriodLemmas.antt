-- Ownership repeats after as many cycles as the greatest repetition of the lines.
use Rattle.std.proofs.Common.{◌≡◌, ℕ, ◌%◌, ◌≤◌, ◌==◌, leb, not, Bool, true, ◌&&◌, ◌||◌, List, [], ◌∷◌}
use Rattle.std.proofs.Common.{◌++◌, max, refl, sym, ap, ◌∙◌, inl, inr, arith}
use Rattle.std.specs.List.{list_any, list_all}
use Rattle.std.proofs.lemmas.Bool.{cases_lt, eqb-true, and_parts, or_cases, le-leb, leb-true}
use Rattle.std.proofs.Math.Nat.{le-max_left, le-max_right, max-eq_left, max-eq_right, mod-mod_of_dvd}
use Rattle.std.proofs.lemmas.Nat.Gcd.{dvd_of_mod-eq-zero}
use Rattle.fr_slots.specs.declared.channel.Channel.{Channel}
use Rattle.fr_slots.specs.declared.plan.Own.{Own}
use Rattle.fr_slots.specs.Admission.{includes, repetitions, is_repetition}
use Rattle.fr_slots.specs.Faults.{claims, is_owned}
use Rattle.fr_slots.specs.Plans.{IsOwn, Each}
use Rattle.fr_guardian.specs.Periods.{period}

-- ---- repetitions

-- a test that each number of a list passes holds for each number in it
of_each : (test : ℕ → Bool) (n : ℕ) (xs : List ℕ) → list_any (λ x. n == x) xs ≡ true → list_all test xs ≡ true
    → test n ≡ true
of_each test n [] any all = cc any
of_each test n (x ∷ xs) any all =
    let (here, later) = and_parts (test x) (list_all test xs) all in
    elim (or_cases (n == x) (list_any (λ y. n == y) xs) any) [
      | inl same ↦ ap test (eqb-true n x same) ∙ here
      | inr other ↦ of_each test n xs other later
    ]

-- a repetition divides each repetition that isn't less
abbrev divides : ℕ → ℕ → Bool
divides most r = not (leb r most) || most % r == 0

no_rest : (most r : ℕ) → is_repetition most ≡ true → is_repetition r ≡ true → r ≤ most → most % r ≡ 0
no_rest most r is_most is_r le =
    let all = of_each (λ m. list_all (divides m) repetitions) most repetitions is_most refl in
    let here = of_each (divides most) r repetitions is_r all in
    eqb-true (most % r) 0 (ap (λ b. not b || most % r == 0) (sym (le-leb r most le)) ∙ here)

pub at_most_64 : (r : ℕ) → is_repetition r ≡ true → r ≤ 64
at_most_64 r is = leb-true r 64 (of_each (λ n. leb n 64) r repetitions is refl)

pub at_least_1 : (r : ℕ) → is_repetition r ≡ true → 1 ≤ r
at_least_1 r is = leb-true 1 r (of_each (λ n. leb 1 n) r repetitions is refl)

-- ---- ownership repeats

-- no line has a greater repetition
abbrev pub AreWithin : ℕ → List Own → Type 0
AreWithin most owned = Each (λ own. own.cycles.repetition ≤ most) owned

claims_again : (most : ℕ) → is_repetition most ≡ true → (own : Own) → IsOwn own → own.cycles.repetition ≤ most
    → (slot : ℕ) (channel : Channel) (cycle : ℕ) → claims slot channel (cycle % most) own ≡ claims slot channel cycle
    own
claims_again most is own lawful within slot channel cycle =
    ap (λ rest. own.slot == slot && includes own.channels channel && (rest == own.cycles.base))
    (mod-mod_of_dvd own.cycles.repetition cycle
    (dvd_of_mod-eq-zero own.cycles.repetition (no_rest most own.cycles.repetition is lawful.cycles_are.repetition_is
    within)))

pub owned_again : (most : ℕ) → is_repetition most ≡ true → (owned : List Own) → Each IsOwn owned → AreWithin most owned
    → (slot : ℕ) (channel : Channel) (cycle : ℕ) → is_owned owned slot channel (cycle % most) ≡ is_owned owned slot
    channel cycle
owned_again most is [] lawful within slot channel cycle = refl
owned_again most is (own ∷ owned) lawful within slot channel cycle =
    ap (λ b. b || is_owned owned slot channel (cycle % most))
    (claims_again most is own lawful.0 within.0 slot channel cycle)
    ∙ ap (λ b. claims slot channel cycle own || b) (owned_again most is owned lawful.1 within.1 slot channel cycle)

pub within_64 : (owned : List Own) → Each IsOwn owned → AreWithin 64 owned
within_64 [] lawful = tt
within_64 (own ∷ owned) lawful = (
  at_most_64 own.cycles.repetition lawful.0.cycles_are.repetition_is,
  within_64 owned lawful.1,
)

-- ---- the period

pub within_more : (most more : ℕ) → most ≤ more → (owned : List Own) → AreWithin most owned → AreWithin more owned
within_more most more le [] within = tt
within_more most more le (own ∷ owned) within = (omega (arith, within.0, le), within_more most more le owned within.1)

greater_is : (a b : ℕ) → is_repetition a ≡ true → is_repetition b ≡ true → is_repetition (max a b) ≡ true
greater_is a b is_a is_b =
    elim (cases_lt a b) [
      | inl less ↦ (let le : a ≤ b = omega (arith, less) in ap is_repetition (max-eq_right le) ∙ is_b)
      | inr after ↦ ap is_repetition (max-eq_left after) ∙ is_a
    ]

pub period_is : (owned : List Own) → Each IsOwn owned → is_repetition (period owned) ≡ true
unfolding period
period_is [] lawful = refl
period_is (own ∷ owned) lawful = greater_is own.cycles.repetition (period owned) lawful.0.cycles_are.repetition_is
    (period_is owned lawful.1)

pub within_period : (owned : List Own) → AreWithin (period owned) owned
unfolding period
within_period [] = tt
within_period (own ∷ owned) = (
  le-max_left own.cycles.repetition (period owned),
  within_more (period owned) (max own.cycles.repetition (period owned))
      (le-max_right own.cycles.repetition (period owned)) owned (within_period owned),
)

pub period_some : (owned : List Own) → 1 ≤ period owned
unfolding period
period_some [] = omega arith
period_some (own ∷ owned) =
    let some = period_some owned in
    let le = le-max_right own.cycles.repetition (period owned) in
    omega (arith, some, le)

max_assoc : (a b c : ℕ) → max a (max b c) ≡ max (max a b) c
max_assoc a b c = omega arith

pub period-append : (xs ys : List Own) → period (xs ++ ys) ≡ max (period xs) (period ys)
unfolding period
period-append [] ys = sym (max-eq_right (period_some ys))
period-append (own ∷ xs) ys = ap (max own.cycles.repetition) (period-append xs ys) ∙ max_assoc own.cycles.repetition
    (period xs) (period ys)

-- with one more line
pub period_more : (owned : List Own) (own : Own) → period (owned ++ own ∷ []) ≡ max own.cycles.repetition (period owned)
unfolding period
period_more owned own = let some = period_some owned in period-append owned (own ∷ []) ∙
    (let e : max (period owned) (max own.cycles.repetition 1) ≡ max own.cycles.repetition (period owned) =
    omega (arith, some) in e)
