-- The writing of a list of lines, one line more.
use Rattle.std.proofs.Common.{◌≡◌, ℕ, zero, suc, ◌+◌, ◌<◌, List, [], ◌∷◌, ◌++◌, length, take, get_or, Option, Some}
use Rattle.std.proofs.Common.{None, Result, Ok, Err, sym, ap, subst, ◌∙◌, append-nil, arith}
use Rattle.std.specs.Io.KnownBytes.{Appends}
use Rattle.std.specs.List.{flat_map}
use Rattle.std.specs.Prelude.{OnOk, slice_get}
use Rattle.std.proofs.KnownBytes.{Appends-trans}
use Rattle.std.proofs.lemmas.Grind.{flat_map-append}
use Rattle.std.proofs.lemmas.List.{take_more}

module _ {X : Type 0} (line : X → List ℕ) where
  lines-more : (xs : List X) (i : ℕ) (x : X) → i < length xs → x ≡ get_or xs i x
      → flat_map line (take (i + 1) xs) ≡ flat_map line (take i xs) ++ line x
  lines-more xs i x lt is =
      ap (flat_map line) (take_more xs i x lt ∙ ap (λ (y : X). take i xs ++ y ∷ []) (sym is))
      ∙ flat_map-append line (take i xs) (x ∷ [])
      ∙ ap (λ (t : List ℕ). flat_map line (take i xs) ++ t) (append-nil (line x))

  pub written-more : (xs : List X) (i : ℕ) (x : X) (old mid new : Option (List ℕ)) → i < length xs → x ≡ get_or xs i x
      → Appends old mid (flat_map line (take i xs)) → Appends mid new (line x)
      → Appends old new (flat_map line (take (i + 1) xs))
  written-more xs i x old mid new lt is before one =
      subst (λ (t : List ℕ). Appends old new t) (sym (lines-more xs i x lt is))
      (Appends-trans old mid new (flat_map line (take i xs)) (line x) before one)

-- an element in range
pub there_is : {X : Type 0} (xs : List X) (i : ℕ) (x : X) → slice_get xs i ≡ Some x → x ≡ get_or xs i x
there_is [] i x is = cc is
there_is (y ∷ xs) zero x is = cc is
there_is (y ∷ xs) (suc i) x is = there_is xs i x is

pub none_behind : {X : Type 0} (xs : List X) (i : ℕ) → i < length xs → slice_get xs i ≡ None → ⊥
none_behind [] i lt is = omega arith
none_behind (y ∷ xs) zero lt is = cc is
none_behind (y ∷ xs) (suc i) lt is = none_behind xs i (omega arith) is

-- the last step appends its text to the text of the steps before it
pub appends-last : {A E : Type 0} (r : Result A E) (old mid new : Option (List ℕ)) (front back : List ℕ)
    → Appends old mid front → OnOk r (Appends mid new back) → OnOk r (Appends old new (front ++ back))
appends-last (Ok x) old mid new front back before last = Appends-trans old mid new front back before last
appends-last (Err e) old mid new front back before last = tt
