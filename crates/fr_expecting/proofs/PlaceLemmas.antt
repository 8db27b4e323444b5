-- A place in a list: the elements before it, the element there, and the elements that are left.
use Rattle.std.proofs.Common.{◌≡◌, ℕ, zero, suc, ◌+◌, ◌≤◌, ◌<◌, List, [], ◌∷◌, ◌++◌, length, take, drop, Option, Some}
use Rattle.std.proofs.Common.{option_map, refl, sym, ap, subst, ◌∙◌, arith}
use Rattle.std.specs.Prelude.{slice_get}
use Rattle.fr_journal.specs.Forms.{Entry, LentEntry}
use Rattle.fr_journal.specs.Lent.{whole}

pub record IsHere {X : Type 0} (xs : List X) (n : ℕ) (x : X) : Type 0 where
  pub within : n < length xs
  pub passed : take (n + 1) xs ≡ take n xs ++ x ∷ []
  pub left : drop n xs ≡ x ∷ drop (n + 1) xs
  pub place : length (take n xs) ≡ n

-- the same, with the successor in place of the sum
record IsThere {X : Type 0} (xs : List X) (n : ℕ) (x : X) : Type 0 where
  within : n < length xs
  passed : take (suc n) xs ≡ take n xs ++ x ∷ []
  left : drop n xs ≡ x ∷ drop (suc n) xs
  place : length (take n xs) ≡ n

there : {X : Type 0} (xs : List X) (n : ℕ) (x : X) → slice_get xs n ≡ Some x → IsThere xs n x
there [] n x is = absurd (let never : ⊥ = cc in never)
there (y ∷ xs) zero x is =
    let same : y ≡ x = cc in
    record { within = omega arith; passed = ap (λ z. z ∷ []) same; left = ap (λ z. z ∷ xs) same; place = refl }
there (y ∷ xs) (suc n) x is =
    let h = there xs n x is in
    let lt : n < length xs = h.within in
    record {
      within = omega (arith, lt);
      passed = ap (λ (l : List _). y ∷ l) h.passed;
      left = h.left;
      place = ap suc h.place;
    }

pub here : {X : Type 0} (xs : List X) (n : ℕ) (x : X) → slice_get xs n ≡ Some x → IsHere xs n x
here xs n x is =
    let h = there xs n x is in
    let next : suc n ≡ n + 1 = omega arith in
    record {
      within = h.within;
      passed = subst (λ (m : ℕ). take m xs ≡ take n xs ++ x ∷ []) next h.passed;
      left = subst (λ (m : ℕ). drop n xs ≡ x ∷ drop m xs) next h.left;
      place = h.place;
    }

pub nothing_left : {X : Type 0} (xs : List X) (n : ℕ) → length xs ≤ n → drop n xs ≡ []
nothing_left [] zero le = refl
nothing_left [] (suc n) le = refl
nothing_left (x ∷ xs) zero le = absurd (omega (arith, le))
nothing_left (x ∷ xs) (suc n) le = nothing_left xs n (omega (arith, le))

-- ---- an entry of a journal, borrowed

pub lent_there : (es journal : List Entry) (n : ℕ) (o : Option LentEntry) (e : LentEntry) → journal ≡ es
    → option_map whole o ≡ slice_get journal n → o ≡ Some e → slice_get es n ≡ Some (whole e)
lent_there es journal n o e same lent is = ap (λ (l : List Entry). slice_get l n) (sym same) ∙ sym lent ∙ ap
    (option_map whole) is
