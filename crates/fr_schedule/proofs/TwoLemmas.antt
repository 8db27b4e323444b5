-- Two items that pass a test, in a list that consists of several lists.
use Rattle.std.proofs.Common.{◌≡◌, ℕ, zero, suc, Bool, true, ◌&&◌, List, [], ◌∷◌, ◌++◌, Some, refl, ap, ◌∙◌, inl, inr}
use Rattle.std.proofs.lemmas.Bool.{and_from, and_parts, or_cases, or_left, or_right}
use Rattle.std.proofs.lemmas.List.Folds.{list_any-append}
use Rattle.std.proofs.lemmas.Option.{same_Some}
use Rattle.std.specs.List.{list_any, flat_map, slice_get}
use Rattle.fr_slots.specs.Faults.{two_pass}

module _ {X : Type 0} (t : X → Bool) where
  any_left : (xs ys : List X) → list_any t xs ≡ true → list_any t (xs ++ ys) ≡ true
  any_left xs ys any = list_any-append t xs ys ∙ or_left (list_any t xs) (list_any t ys) any

  any_right : (xs ys : List X) → list_any t ys ≡ true → list_any t (xs ++ ys) ≡ true
  any_right xs ys any = list_any-append t xs ys ∙ or_right (list_any t xs) (list_any t ys) any

  pub two_left : (xs ys : List X) → two_pass t xs ≡ true → two_pass t (xs ++ ys) ≡ true
  unfolding two_pass
  two_left [] ys two = cc two
  two_left (x ∷ xs) ys two =
      elim (or_cases (t x && list_any t xs) (two_pass t xs) two) [
        | inl here ↦
            (let (first, more) = and_parts (t x) (list_any t xs) here in
            or_left (t x && list_any t (xs ++ ys)) (two_pass t (xs ++ ys))
            (and_from (t x) (list_any t (xs ++ ys)) first (any_left xs ys more)))
        | inr later ↦ or_right (t x && list_any t (xs ++ ys)) (two_pass t (xs ++ ys)) (two_left xs ys later)
      ]

  pub two_right : (xs ys : List X) → two_pass t ys ≡ true → two_pass t (xs ++ ys) ≡ true
  unfolding two_pass
  two_right [] ys two = two
  two_right (x ∷ xs) ys two = or_right (t x && list_any t (xs ++ ys)) (two_pass t (xs ++ ys)) (two_right xs ys two)

  one_of_both : (xs ys : List X) → list_any t xs ≡ true → list_any t ys ≡ true → two_pass t (xs ++ ys) ≡ true
  unfolding two_pass
  one_of_both [] ys any_x any_y = cc any_x
  one_of_both (x ∷ xs) ys any_x any_y =
      elim (or_cases (t x) (list_any t xs) any_x) [
        | inl here ↦
            or_left (t x && list_any t (xs ++ ys)) (two_pass t (xs ++ ys))
            (and_from (t x) (list_any t (xs ++ ys)) here (any_right xs ys any_y))
        | inr later ↦ or_right (t x && list_any t (xs ++ ys)) (two_pass t (xs ++ ys)) (one_of_both xs ys later any_y)
      ]

  module _ {P : Type 0} (lines : P → List X) where
    pub any_at : (plans : List P) (n : ℕ) (p : P) → slice_get plans n ≡ Some p → list_any t (lines p) ≡ true
        → list_any t (flat_map lines plans) ≡ true
    any_at [] n p at any = cc at
    any_at (q ∷ plans) zero p at any = any_left (lines q) (flat_map lines plans)
        (ap (λ r. list_any t (lines r)) (same_Some q p at) ∙ any)
    any_at (q ∷ plans) (suc n) p at any = any_right (lines q) (flat_map lines plans) (any_at plans n p at any)

    -- one item in each of two lists
    pub two_at : (plans : List P) (m n : ℕ) (p q : P) → (m ≡ n → ⊥) → slice_get plans m ≡ Some p
        → slice_get plans n ≡ Some q
        → list_any t (lines p) ≡ true → list_any t (lines q) ≡ true → two_pass t (flat_map lines plans) ≡ true
    two_at [] m n p q differ at_m at_n any_p any_q = cc at_m
    two_at (r ∷ plans) zero zero p q differ at_m at_n any_p any_q = absurd (differ refl)
    two_at (r ∷ plans) zero (suc n) p q differ at_m at_n any_p any_q =
        one_of_both (lines r) (flat_map lines plans) (ap (λ s. list_any t (lines s)) (same_Some r p at_m) ∙ any_p)
        (any_at plans n q at_n any_q)
    two_at (r ∷ plans) (suc m) zero p q differ at_m at_n any_p any_q =
        one_of_both (lines r) (flat_map lines plans) (ap (λ s. list_any t (lines s)) (same_Some r q at_n) ∙ any_q)
        (any_at plans m p at_m any_p)
    two_at (r ∷ plans) (suc m) (suc n) p q differ at_m at_n any_p any_q =
        two_right (lines r) (flat_map lines plans) (two_at plans m n p q
        (λ same. differ (ap suc same)) at_m at_n any_p any_q)
