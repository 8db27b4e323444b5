-- The first of numbers in a row, tests of numbers in a row, and undivided slots.
use Rattle.std.proofs.Common.{◌≡◌, ℕ, zero, suc, ◌+◌, ◌-◌, ◌%◌, ◌<◌, ◌≤◌, ◌==◌, not, Bool, true, false, ◌&&◌, ◌||◌}
use Rattle.std.proofs.Common.{List, [], ◌∷◌, Option, Some, None, refl, sym, ap, ◌∙◌, inl, inr, ◌⊎◌, arith}
use Rattle.std.specs.List.{list_any}
use Rattle.std.specs.Option.{option_or}
use Rattle.std.proofs.lemmas.Bool.{cases_eq, and_parts, and_from, or_parts}
use Rattle.std.proofs.lemmas.Bool.{or_cases, or_left, or_right, eqb-true, eq-eqb}
use Rattle.std.proofs.Math.Nat.{mod-one}
use Rattle.fr_slots.specs.declared.channel.Channel.{Channel}
use Rattle.fr_slots.specs.declared.plan.Own.{Own}
use Rattle.fr_slots.specs.declared.filter.Filter.{Filter}
use Rattle.fr_slots.specs.Admission.{includes, cycle_admitted, is_every_cycle}
use Rattle.fr_slots.specs.Faults.{numbers_from, first_of, claims, is_owned, is_undivided, is_owned_always}
use Rattle.fr_slots.specs.Faults.{is_unowned_in, any_unowned}

-- ---- the first of the numbers of a loop

numbers-from_first : (n end : ℕ) → n < end → numbers_from n (end - n) ≡ n ∷ numbers_from (n + 1) (end - (n + 1))
unfolding numbers_from
numbers-from_first n end below = let more : end - n ≡ suc (end - (n + 1)) = omega arith in ap (numbers_from n) more

module _ {A : Type 0} (f : ℕ → Option A) where
  -- a number that gives nothing is passed over
  pub first-goes_on : (n end : ℕ) (o : Option A) → n < end → f n ≡ None → first_of f (numbers_from n (end - n)) ≡ o
      → first_of f (numbers_from (n + 1) (end - (n + 1))) ≡ o
  unfolding first_of
  first-goes_on n end o below none first =
      sym (ap (λ r. option_or r (first_of f (numbers_from (n + 1) (end - (n + 1))))) none)
      ∙ sym (ap (first_of f) (numbers-from_first n end below)) ∙ first

  -- one that gives something is the first
  pub first-found : (n end : ℕ) (o : Option A) (x : A) → n < end → f n ≡ Some x
      → first_of f (numbers_from n (end - n)) ≡ o → Some x ≡ o
  unfolding first_of
  first-found n end o x below found first =
      sym (ap (λ r. option_or r (first_of f (numbers_from (n + 1) (end - (n + 1))))) found)
      ∙ sym (ap (first_of f) (numbers-from_first n end below)) ∙ first

  -- if none is left, none gives something
  pub first-ended : (n end : ℕ) (o : Option A) → end ≤ n → first_of f (numbers_from n (end - n)) ≡ o → None ≡ o
  unfolding first_of numbers_from
  first-ended n end o all first = let none : end - n ≡ 0 = omega arith in sym
      (ap (λ m. first_of f (numbers_from n m)) none) ∙ first

-- ---- the first of numbers in a row

pub option_cases : {A : Type 0} (o : Option A) → (o ≡ None) ⊎ ((x : A) × (o ≡ Some x))
option_cases None = inl refl
option_cases (Some x) = inr (x, refl)

module _ {A : Type 0} (f : ℕ → Option A) where
  pub first-is : (least more n : ℕ) (x : A) → least ≤ n → n < least + more → f n ≡ Some x
      → ((k : ℕ) → least ≤ k → k < n → f k ≡ None)
      → first_of f (numbers_from least more) ≡ Some x
  unfolding first_of numbers_from
  first-is least zero n x from below found before = absurd (omega arith)
  first-is least (suc more) n x from below found before =
      elim (cases_eq least n) [
        | inl same ↦ ap (λ o. option_or o (first_of f (numbers_from (least + 1) more))) (ap f same ∙ found)
        | inr other ↦
            ap (λ o. option_or o (first_of f (numbers_from (least + 1) more)))
            (before least (omega arith) (omega arith))
            ∙ first-is (least + 1) more n x (omega arith) (omega arith) found
            (λ k low high. before k (omega arith) high)
      ]

  pub first-is_none : (least more : ℕ) → ((k : ℕ) → least ≤ k → k < least + more → f k ≡ None)
      → first_of f (numbers_from least more) ≡ None
  unfolding first_of numbers_from
  first-is_none least zero none = refl
  first-is_none least (suc more) none =
      ap (λ o. option_or o (first_of f (numbers_from (least + 1) more))) (none least (omega arith) (omega arith))
      ∙ first-is_none (least + 1) more (λ k low high. none k (omega arith) (omega arith))

  pub first-none : (least more : ℕ) → first_of f (numbers_from least more) ≡ None → (k : ℕ) → least ≤ k
      → k < least + more → f k ≡ None
  unfolding first_of numbers_from
  first-none least zero first k low high = absurd (omega arith)
  first-none least (suc more) first k low high =
      elim (option_cases (f least)) [
        | inl none ↦
            elim (cases_eq k least) [
              | inl same ↦ ap f same ∙ none
              | inr other ↦
                  first-none (least + 1) more (ap (λ o. option_or o (first_of f (numbers_from (least + 1) more)))
                  (sym none) ∙ first) k
                  (omega arith) (omega arith)
            ]
        | inr some ↦ cc (ap (λ o. option_or o (first_of f (numbers_from (least + 1) more))) some.1, first)
      ]

  -- the first number that gives something
  pub record IsFirstNumber (least more : ℕ) (x : A) (n : ℕ) : Type 0 where
    pub from : least ≤ n
    pub below : n < least + more
    pub found : f n ≡ Some x
    pub before : (k : ℕ) → least ≤ k → k < n → f k ≡ None

  pub first-some : (least more : ℕ) (x : A) → first_of f (numbers_from least more) ≡ Some x
      → (n : ℕ) × IsFirstNumber least more x n
  unfolding first_of numbers_from
  first-some least zero x first = cc first
  first-some least (suc more) x first =
      elim (option_cases (f least)) [
        | inl none ↦
            (let (n, r) = first-some (least + 1) more x
            (ap (λ o. option_or o (first_of f (numbers_from (least + 1) more))) (sym none) ∙ first) in (
              n,
              record {
                from = omega (arith, r.from);
                below = omega (arith, r.below);
                found = r.found;
                before = λ k low high.
                    elim (cases_eq k least) [
                      | inl same ↦ ap f same ∙ none
                      | inr other ↦ r.before k (omega arith) high
                    ];
              },
            ))
        | inr some ↦ (
          least,
          record {
            from = omega arith;
            below = omega arith;
            found = some.1 ∙
                (let e : Some some.0 ≡ Some x = sym (ap (λ o. option_or o (first_of f (numbers_from (least + 1) more)))
                some.1) ∙ first in e);
            before = λ k low high. absurd (omega arith);
          },
        )
      ]

-- ---- one of the numbers passes a test

module _ (test : ℕ → Bool) where
  -- a number that fails is passed over
  pub any-goes_on : (n end : ℕ) (b : Bool) → n < end → test n ≡ false → list_any test (numbers_from n (end - n)) ≡ b
      → list_any test (numbers_from (n + 1) (end - (n + 1))) ≡ b
  any-goes_on n end b below fails any =
      sym (ap (λ r. r || list_any test (numbers_from (n + 1) (end - (n + 1)))) fails)
      ∙ sym (ap (list_any test) (numbers-from_first n end below)) ∙ any

  -- one that passes is enough
  pub any-found : (n end : ℕ) (b : Bool) → n < end → test n ≡ true → list_any test (numbers_from n (end - n)) ≡ b
      → true ≡ b
  any-found n end b below passes any =
      sym (ap (λ r. r || list_any test (numbers_from (n + 1) (end - (n + 1)))) passes)
      ∙ sym (ap (list_any test) (numbers-from_first n end below)) ∙ any

  -- if none is left, none passes
  pub any-ended : (n end : ℕ) (b : Bool) → end ≤ n → list_any test (numbers_from n (end - n)) ≡ b → false ≡ b
  unfolding numbers_from
  any-ended n end b all any = let none : end - n ≡ 0 = omega arith in sym
      (ap (λ m. list_any test (numbers_from n m)) none) ∙ any

  -- if none is found, each fails
  pub any-none : (least more : ℕ) → list_any test (numbers_from least more) ≡ false → (k : ℕ) → least ≤ k
      → k < least + more → test k ≡ false
  unfolding numbers_from
  any-none least zero none k low high = absurd (omega arith)
  any-none least (suc more) none k low high =
      let (here, later) = or_parts (test least) (list_any test (numbers_from (least + 1) more)) none in
      elim (cases_eq k least) [
        | inl same ↦ ap test same ∙ here
        | inr other ↦ any-none (least + 1) more later k (omega arith) (omega arith)
      ]

  -- if each fails, none is found
  pub any-is_none : (least more : ℕ) → ((k : ℕ) → test k ≡ false) → list_any test (numbers_from least more) ≡ false
  unfolding numbers_from
  any-is_none least zero none = refl
  any-is_none least (suc more) none =
      ap (λ b. b || list_any test (numbers_from (least + 1) more)) (none least) ∙ any-is_none (least + 1) more none

-- ---- an undivided slot

module _ (slot : ℕ) (channel : Channel) where
  one_pass : (cycle : ℕ) (own : Own) → is_undivided slot channel own ≡ true → claims slot channel cycle own ≡ true
  one_pass cycle own undivided =
      let (front, every) = and_parts (own.slot == slot && includes own.channels channel)
      (is_every_cycle own.cycles) undivided in
      let (zero_is, one_is) = and_parts (own.cycles.base == 0) (own.cycles.repetition == 1) every in
      and_from (own.slot == slot && includes own.channels channel) (cycle_admitted own.cycles cycle) front
      (eq-eqb (cycle % own.cycles.repetition) own.cycles.base
      (ap (λ r. cycle % r) (eqb-true own.cycles.repetition 1 one_is) ∙ mod-one cycle ∙ sym
      (eqb-true own.cycles.base 0 zero_is)))

  owned_always : (owned : List Own) (cycle : ℕ) → is_owned_always owned slot channel ≡ true
      → is_owned owned slot channel cycle ≡ true
  owned_always [] cycle always = cc always
  owned_always (own ∷ owned) cycle always =
      elim (or_cases (is_undivided slot channel own) (is_owned_always owned slot channel) always) [
        | inl here ↦ or_left _ _ (one_pass cycle own here)
        | inr later ↦ or_right _ _ (owned_always owned cycle later)
      ]

-- a slot that is owned in all cycles is unowned in none
pub none_unowned : (owned : List Own) (f : Filter) (channel : Channel) → is_owned_always owned f.slot channel ≡ true
    → any_unowned owned f channel ≡ false
none_unowned owned f channel always =
    any-is_none (is_unowned_in owned f channel) 0 64
    (λ cycle. ap (λ b. cycle_admitted f.cycles cycle && not b) (owned_always f.slot channel owned cycle always) ∙ never
    (cycle_admitted f.cycles cycle))
  where
    never : (b : Bool) → (b && false) ≡ false
    never true = refl
    never false = refl
