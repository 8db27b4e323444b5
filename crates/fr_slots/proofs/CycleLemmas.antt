-- The remainder of a division by a repetition is in the bits below the repetition.
use Rattle.std.proofs.Common.{◌≡◌, ℕ, ◌-◌, ◌%◌, ◌^◌, ◌==◌, ◌||◌, true, List, [], ◌∷◌, map, bit_and, inl, inr, sym, ap}
use Rattle.std.proofs.Common.{subst, ◌∙◌}
use Rattle.std.proofs.lemmas.Bool.{cases_Bool, eqb-true}
use Rattle.std.proofs.lemmas.Nat.{and_mask}
use Rattle.std.specs.List.{list_any}
use Rattle.fr_slots.specs.Admission.{is_repetition}

power_of : (r : ℕ) (exponents : List ℕ) (n : ℕ) → list_any (λ q. r == q) (map (λ k. 2 ^ k) exponents) ≡ true
    → bit_and n (r - 1) ≡ n % r
power_of r [] n is = cc is
power_of r (k ∷ ks) n is =
    elim (cases_Bool (r == 2 ^ k)) [
      | inl same ↦ subst (λ q. bit_and n (q - 1) ≡ n % q) (sym (eqb-true r (2 ^ k) same)) (and_mask n k)
      | inr other ↦ power_of r ks n (ap (λ b. b || list_any (λ q. r == q) (map (λ j. 2 ^ j) ks)) (sym other) ∙ is)
    ]

pub rest_below : (n r : ℕ) → is_repetition r ≡ true → bit_and n (r - 1) ≡ n % r
rest_below n r is = power_of r (0 ∷ 1 ∷ 2 ∷ 3 ∷ 4 ∷ 5 ∷ 6 ∷ []) n is
