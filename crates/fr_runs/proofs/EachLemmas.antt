-- A fact of each element of a list and the elements before it.
use Rattle.std.proofs.Common.{◌≡◌, ℕ, ◌+◌, ◌<◌, ◌≤◌, List, take, length, Option, Some, None, refl, sym, subst}
use Rattle.std.proofs.Common.{arith, inl, inr}
use Rattle.std.specs.Prelude.{IfSome, slice_get}
use Rattle.std.proofs.lemmas.Bool.Decides.{eqb_tells}
use Rattle.std.proofs.lemmas.Option.{slice_get_within}

module _ {X : Type 0} (P : List X → X → Type 0) (xs : List X) where
  abbrev pub EachBefore : ℕ → Type 0
  EachBefore i = IfSome (slice_get xs i) (P (take i xs))

  -- it holds of one more
  pub each_next : (k : ℕ) (x : X) → slice_get xs k ≡ Some x → ((i : ℕ) → i < k → EachBefore i) → P (take k xs) x
      → (i : ℕ) → i < k + 1 → EachBefore i
  each_next k x at before here i below = elim (eqb_tells i k) [
    | inl same ↦ subst EachBefore (sym same.1) (subst (λ o. IfSome o (P (take k xs))) (sym at) here)
    | inr other ↦ before i (let less : i < k = omega (arith, below, other.1) in less)
  ]

  by_place : (i : ℕ) (o : Option X) → slice_get xs i ≡ o → (i < length xs → EachBefore i) → IfSome o (P (take i xs))
  by_place i None at all = tt
  by_place i (Some x) at all = subst (λ o. IfSome o (P (take i xs))) at (all (slice_get_within xs i x at))

  -- it holds of all, if it holds up to the end
  pub each_all : (k : ℕ) → length xs ≤ k → ((i : ℕ) → i < k → EachBefore i) → (i : ℕ) → EachBefore i
  each_all k end before i = by_place i (slice_get xs i) refl (λ within. before i (omega (arith, within, end)))
