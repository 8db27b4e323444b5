-- The entry at a place of the first entries.
use Rattle.std.proofs.Common.{◌≡◌, ℕ, zero, suc, ◌<◌, ◌≤◌, List, [], ◌∷◌, take, None, refl, arith}
use Rattle.std.specs.Prelude.{slice_get}

module _ {X : Type 0} where
  pub get_take : (xs : List X) (n k : ℕ) → k < n → slice_get (take n xs) k ≡ slice_get xs k
  get_take xs zero k below = absurd (let none : ⊥ = omega (arith, below) in none)
  get_take [] (suc n) k below = refl
  get_take (x ∷ xs) (suc n) zero below = refl
  get_take (x ∷ xs) (suc n) (suc k) below = get_take xs n k (omega (arith, below))

  pub get_past_take : (xs : List X) (n k : ℕ) → n ≤ k → slice_get (take n xs) k ≡ None
  get_past_take xs zero k past = refl
  get_past_take [] (suc n) k past = refl
  get_past_take (x ∷ xs) (suc n) zero past = absurd (let none : ⊥ = omega (arith, past) in none)
  get_past_take (x ∷ xs) (suc n) (suc k) past = get_past_take xs n k (omega (arith, past))
