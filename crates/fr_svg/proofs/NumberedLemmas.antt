-- The writing of a text for each number, one number more, and of a last text.
use Rattle.std.proofs.Common.{◌≡◌, ℕ, zero, suc, ◌+◌, List, [], ◌∷◌, ◌++◌, Option, Result, Ok, Err, sym, ap, subst}
use Rattle.std.proofs.Common.{◌∙◌, append-nil, arith}
use Rattle.std.specs.Prelude.{OnOk}
use Rattle.std.specs.Io.KnownBytes.{Appends}
use Rattle.std.specs.List.{flat_map, range_with_len}
use Rattle.std.proofs.KnownBytes.{Appends-trans}
use Rattle.std.proofs.lemmas.Grind.{flat_map-append}

range-more : (first count : ℕ) → range_with_len first (count + 1) ≡ range_with_len first count ++ (first + count) ∷ []
range-more first zero = ap (λ (n : ℕ). n ∷ []) (omega arith)
range-more first (suc count) =
    let next : suc count + 1 ≡ suc (count + 1) = omega arith in
    let here : first + 1 + count ≡ first + suc count = omega arith in
    ap (λ (n : ℕ). range_with_len first n) next
    ∙ ap (λ (xs : List ℕ). first ∷ xs) (range-more (first + 1) count ∙ ap
    (λ (n : ℕ). range_with_len (first + 1) count ++ n ∷ []) here)

-- the texts of one number more
pub texts-more : (text : ℕ → List ℕ) (first count number : ℕ) → number ≡ first + count
    → flat_map text (range_with_len first (count + 1)) ≡ flat_map text (range_with_len first count) ++ text number
texts-more text first count number is =
    ap (flat_map text) (range-more first count)
    ∙ flat_map-append text (range_with_len first count) ((first + count) ∷ [])
    ∙ ap (λ (t : List ℕ). flat_map text (range_with_len first count) ++ t)
    (append-nil (text (first + count)) ∙ sym (ap text is))

-- one number more is written
pub number-more : (text : ℕ → List ℕ) (first count number : ℕ) (old mid new : Option (List ℕ))
    → number ≡ first + count
    → Appends old mid (flat_map text (range_with_len first count))
    → Appends mid new (text number) → Appends old new (flat_map text (range_with_len first (count + 1)))
number-more text first count number old mid new is before more =
    subst (λ (t : List ℕ). Appends old new t) (sym (texts-more text first count number is)) (Appends-trans old mid new
    (flat_map text (range_with_len first count)) (text number) before more)

-- the last step appends its text to the text of the steps before it
pub last-written : {A E : Type 0} (r : Result A E) (old mid new : Option (List ℕ)) (front back : List ℕ)
    → Appends old mid front → OnOk r (Appends mid new back) → OnOk r (Appends old new (front ++ back))
last-written (Ok x) old mid new front back before last = Appends-trans old mid new front back before last
last-written (Err e) old mid new front back before last = tt
