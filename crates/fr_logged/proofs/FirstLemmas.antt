-- The first item that passes a test, by its place and by itself.
use Rattle.std.proofs.Common.{◌≡◌, ℕ, zero, suc, ◌≤◌, Bool, true, false, cond, List, [], ◌∷◌, length, refl}
use Rattle.std.proofs.Common.{ap, ◌∙◌, arith, Option, Some, None, slice_get}
use Rattle.std.proofs.lemmas.Bool.{ltb-false, or_parts}
use Rattle.std.proofs.lemmas.List.Folds.{find_at}
use Rattle.std.specs.Prelude.{nat_lt, ◌||◌, is_some}
use Rattle.std.specs.List.{find, position, position_or_len, list_any}
use Rattle.std.specs.Option.{option_and_then}

module _ {X : Type 0} where
  none_past : (xs : List X) (k : ℕ) → length xs ≤ k → slice_get xs k ≡ None
  none_past [] k le = refl
  none_past (x ∷ xs) zero le = absurd (let none : ⊥ = omega arith in none)
  none_past (x ∷ xs) (suc k) le = none_past xs k (omega arith)

  pub find_position : (test : X → Bool) (xs : List X)
      → find test xs ≡ option_and_then (slice_get xs) (position test xs)
  find_position test xs =
      find_at test xs ∙ by (nat_lt (position_or_len test xs) (length xs)) refl
    where
      by : (b : Bool) → nat_lt (position_or_len test xs) (length xs) ≡ b
          → slice_get xs (position_or_len test xs)
          ≡ option_and_then (slice_get xs) (cond b (Some (position_or_len test xs)) None)
      by true e = refl
      by false e = none_past xs (position_or_len test xs) (ltb-false (position_or_len test xs) (length xs) e)

  pub none_found_in : (test : X → Bool) (xs : List X) → list_any test xs ≡ false → find test xs ≡ None
  none_found_in test [] e = refl
  none_found_in test (x ∷ xs) e =
      let parts : (test x ≡ false) × (list_any test xs ≡ false) = or_parts (test x) (list_any test xs) e in
      ap (λ (b : Bool). cond b (Some x) (find test xs)) parts.0 ∙ none_found_in test xs parts.1

  pub not_any : (test : X → Bool) (xs : List X) → find test xs ≡ None → list_any test xs ≡ false
  not_any test [] e = refl
  not_any test (x ∷ xs) e = by (test x) refl e (not_any test xs)
    where
      by : (b : Bool) → test x ≡ b → cond b (Some x) (find test xs) ≡ None
          → (find test xs ≡ None → list_any test xs ≡ false) → list_any test (x ∷ xs) ≡ false
      by true is none more = absurd (let wrong : ⊥ = cc none in wrong)
      by false is none more = ap (λ (b : Bool). b || list_any test xs) is ∙ more none

  pub any_found_in : (test : X → Bool) (xs : List X) (x : X) → find test xs ≡ Some x → list_any test xs ≡ true
  any_found_in test xs x e = by (list_any test xs) refl
    where
      by : (b : Bool) → list_any test xs ≡ b → list_any test xs ≡ true
      by true is = is
      by false is = absurd (let none : ⊥ = cc (none_found_in test xs is, e) in none)

-- an item that passes the test is found
pub record Found {X : Type 0} (test : X → Bool) (xs : List X) : Type 0 where
  pub value : X
  pub is : find test xs ≡ Some value

module _ {X : Type 0} where
  pub some_found_in : (test : X → Bool) (xs : List X) → list_any test xs ≡ true → Found test xs
  some_found_in test xs some = by (find test xs) refl
    where
      by : (o : Option X) → find test xs ≡ o → Found test xs
      by (Some x) e = record { value = x; is = e }
      by None e = absurd (let none : ⊥ = cc (not_any test xs e, some) in none)

-- an option that is there
pub record IsThere {X : Type 0} (o : Option X) : Type 0 where
  pub value : X
  pub is : o ≡ Some value

pub there : {X : Type 0} (o : Option X) → is_some o ≡ true → IsThere o
there None e = absurd (let none : ⊥ = cc in none)
there (Some x) e = record { value = x; is = refl }
