-- The greatest number that passes a test.
use Rattle.std.proofs.Common.{◌≡◌, ℕ, zero, suc, ◌+◌, ◌-◌, ◌<◌, ◌≤◌, Bool, true, false, refl, sym, ap, ◌∙◌}
use Rattle.std.proofs.Common.{inl, inr, arith}
use Rattle.std.proofs.lemmas.Bool.{cases_eq, cases_Bool, cond-true, cond-false, true≢false}
use Rattle.fr_latency.specs.Openings.{greatest}

-- the number itself
pub greatest_here : (test : ℕ → Bool) (n : ℕ) → 0 < n → test n ≡ true → greatest test n ≡ n
unfolding greatest
greatest_here test zero some passes = absurd (omega arith)
greatest_here test (suc n) some passes = cond-true (test (suc n)) (suc n) (greatest test n) passes

-- a number below it
pub greatest_down : (test : ℕ → Bool) (n : ℕ) → 0 < n → test n ≡ false → greatest test n ≡ greatest test (n - 1)
unfolding greatest
greatest_down test zero some fails = absurd (omega arith)
greatest_down test (suc n) some fails =
    let less : suc n - 1 ≡ n = omega arith in
    cond-false (test (suc n)) (suc n) (greatest test n) fails ∙ ap (greatest test) (sym less)

pub greatest_zero : (test : ℕ → Bool) → greatest test 0 ≡ 0
unfolding greatest
greatest_zero test = refl

-- none
pub greatest_none : (test : ℕ → Bool) (n : ℕ) → ((m : ℕ) → m ≤ n → test m ≡ false) → greatest test n ≡ 0
unfolding greatest
greatest_none test zero none = refl
greatest_none test (suc n) none =
    cond-false (test (suc n)) (suc n) (greatest test n) (none (suc n) (omega arith))
    ∙ greatest_none test n (λ m less. none m (omega arith))

-- it is at most the number from which the search goes down
pub greatest_most : (test : ℕ → Bool) (n : ℕ) → greatest test n ≤ n
unfolding greatest
greatest_most test zero = omega arith
greatest_most test (suc n) =
    elim (cases_Bool (test (suc n))) as (λ _. greatest test (suc n) ≤ suc n) [
      | inl passes ↦ omega (arith, cond-true (test (suc n)) (suc n) (greatest test n) passes)
      | inr fails ↦ omega (arith, cond-false (test (suc n)) (suc n) (greatest test n) fails, greatest_most test n)
    ]

-- no number that passes is greater
pub greatest_bounds : (test : ℕ → Bool) (n m : ℕ) → m ≤ n → test m ≡ true → m ≤ greatest test n
unfolding greatest
greatest_bounds test zero m less passes = omega (arith, less)
greatest_bounds test (suc n) m less passes =
    elim (cases_Bool (test (suc n))) as (λ _. m ≤ greatest test (suc n)) [
      | inl here ↦ omega (arith, cond-true (test (suc n)) (suc n) (greatest test n) here, less)
      | inr fails ↦
          elim (cases_eq m (suc n)) as (λ _. m ≤ greatest test (suc n)) [
            | inl same ↦ absurd (true≢false (sym passes ∙ ap test same ∙ fails))
            | inr other ↦ omega (
              arith,
              cond-false (test (suc n)) (suc n) (greatest test n) fails,
              greatest_bounds test n m (omega arith) passes,
            )
          ]
    ]

-- it passes, if it isn't 0
pub greatest_passes : (test : ℕ → Bool) (n : ℕ) → 0 < greatest test n → test (greatest test n) ≡ true
unfolding greatest
greatest_passes test zero some = absurd (omega (arith, some))
greatest_passes test (suc n) some =
    elim (cases_Bool (test (suc n))) as (λ _. test (greatest test (suc n)) ≡ true) [
      | inl here ↦ ap test (cond-true (test (suc n)) (suc n) (greatest test n) here) ∙ here
      | inr fails ↦
          let down : greatest test (suc n) ≡ greatest test n = cond-false (test (suc n)) (suc n)
          (greatest test n) fails in
          ap test down ∙ greatest_passes test n (omega (arith, down, some))
    ]

-- The greatest number from a first one on that passes a test, by the test of the distance from the first, which passes.
pub greatest_moved : (test near : ℕ → Bool) (first n : ℕ) → 0 < first → test first ≡ true
    → ((i : ℕ) → i ≤ n → near i ≡ test (first + i))
    → greatest test (first + n) ≡ first + greatest near n
greatest_moved test near first zero some passes same =
    let at : first + 0 ≡ first = omega arith in
    ap (greatest test) at ∙ greatest_here test first some passes
    ∙ omega (arith, greatest_zero near)
greatest_moved test near first (suc n) some passes same =
    elim (cases_Bool (near (suc n))) as (λ _. greatest test (first + suc n) ≡ first + greatest near (suc n)) [
      | inl here ↦
          greatest_here test (first + suc n) (omega arith) (sym (same (suc n) (omega arith)) ∙ here)
          ∙ ap (λ k. first + k) (sym (greatest_here near (suc n) (omega arith) here))
      | inr fails ↦
          let less : first + suc n - 1 ≡ first + n = omega arith in
          let near_less : suc n - 1 ≡ n = omega arith in
          greatest_down test (first + suc n) (omega arith) (sym (same (suc n) (omega arith)) ∙ fails)
          ∙ ap (greatest test) less
          ∙ greatest_moved test near first n some passes (λ i few. same i (omega arith))
          ∙ ap (λ k. first + k) (sym (greatest_down near (suc n) (omega arith) fails ∙ ap (greatest near) near_less))
    ]
