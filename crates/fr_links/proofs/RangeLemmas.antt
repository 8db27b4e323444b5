-- A list for each number of a range, one number more.
use Rattle.std.proofs.Common.{◌≡◌, ℕ, zero, suc, ◌+◌, List, [], ◌∷◌, ◌++◌, sym, ap, ◌∙◌, append_assoc, append-nil}
use Rattle.std.proofs.Common.{arith}
use Rattle.std.proofs.lemmas.Grind.{flat_map-append}
use Rattle.std.specs.List.{flat_map, range_with_len}

range-more : (first count : ℕ) → range_with_len first (count + 1) ≡ range_with_len first count ++ (first + count) ∷ []
range-more first zero = ap (λ (n : ℕ). n ∷ []) (omega arith)
range-more first (suc count) =
    let next : suc count + 1 ≡ suc (count + 1) = omega arith in
    let here : first + 1 + count ≡ first + suc count = omega arith in
    ap (λ (n : ℕ). range_with_len first n) next
    ∙ ap (λ (xs : List ℕ). first ∷ xs) (range-more (first + 1) count ∙ ap
    (λ (n : ℕ). range_with_len (first + 1) count ++ n ∷ []) here)

lists-more : {Y : Type 0} (f : ℕ → List Y) (first count : ℕ)
    → flat_map f (range_with_len first (count + 1)) ≡ flat_map f (range_with_len first count) ++ f (first + count)
lists-more {Y = Y} f first count =
    ap (flat_map f) (range-more first count) ∙ flat_map-append f (range_with_len first count) ((first + count) ∷ [])
    ∙ ap (λ (ys : List Y). flat_map f (range_with_len first count) ++ ys) (append-nil (f (first + count)))

-- what is given for so many numbers has been appended
pub one_number : {Y : Type 0} (f : ℕ → List Y) (first count : ℕ) (old mid new : List Y)
    → mid ≡ old ++ flat_map f (range_with_len first count) → new ≡ mid ++ f (first + count)
    → new ≡ old ++ flat_map f (range_with_len first (count + 1))
one_number {Y = Y} f first count old mid new are more =
    more ∙ ap (λ (ys : List Y). ys ++ f (first + count)) are
    ∙ append_assoc old (flat_map f (range_with_len first count)) (f (first + count))
    ∙ ap (λ (ys : List Y). old ++ ys) (sym (lists-more f first count))
