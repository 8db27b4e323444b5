-- Numbered items, one item more.
use Rattle.std.proofs.Common.{◌≡◌, ℕ, zero, suc, ◌+◌, List, [], ◌∷◌, ◌++◌, length, take, Some}
use Rattle.std.proofs.Common.{sym, ap, ◌∙◌, append_assoc, append-nil, arith}
use Rattle.std.specs.Prelude.{slice_get}
use Rattle.std.proofs.lemmas.List.{take_all}
use Rattle.fr_links.specs.Links.{numbered}

numbered-more : {X Y : Type 0} (f : ℕ → X → List Y) (number place : ℕ) (xs : List X) (item : X)
    → slice_get xs place ≡ Some item
    → numbered f number (take (place + 1) xs) ≡ numbered f number (take place xs) ++ f (number + place) item
unfolding numbered
numbered-more f number place [] item is = cc is
numbered-more f number zero (x ∷ xs) item is =
    let same : x ≡ item = cc is in
    let place : number ≡ number + 0 = omega arith in
    append-nil (f number x) ∙ ap (f number) same ∙ ap (λ (n : ℕ). f n item) place
numbered-more {Y = Y} f number (suc place) (x ∷ xs) item is =
    let next : suc place + 1 ≡ suc (place + 1) = omega arith in
    let here : number + 1 + place ≡ number + suc place = omega arith in
    ap (λ (n : ℕ). numbered f number (take n (x ∷ xs))) next
    ∙ ap (λ (ys : List Y). f number x ++ ys) (numbered-more f (number + 1) place xs item is ∙ ap
    (λ (n : ℕ). numbered f (number + 1) (take place xs) ++ f n item) here)
    ∙ sym (append_assoc (f number x) (numbered f (number + 1) (take place xs)) (f (number + suc place) item))

-- what is given for so many items has been appended
pub record HasNumbered {X Y : Type 0} (f : ℕ → X → List Y) (xs : List X) (count : ℕ) (old new : List Y) : Type 0 where
  pub added : new ≡ old ++ numbered f 0 (take count xs)

pub no_item : {X Y : Type 0} (f : ℕ → X → List Y) (xs : List X) (old : List Y) → HasNumbered f xs 0 old old
unfolding numbered
no_item f xs old = record { added = sym (append-nil old) }

pub one_item : {X Y : Type 0} (f : ℕ → X → List Y) (xs : List X) (count : ℕ) (item : X) (old mid new : List Y)
    → slice_get xs count ≡ Some item → HasNumbered f xs count old mid → new ≡ mid ++ f count item
    → HasNumbered f xs (count + 1) old new
one_item {Y = Y} f xs count item old mid new is h more =
    let here : 0 + count ≡ count = omega arith in
    record {
      added = more ∙ ap (λ (ys : List Y). ys ++ f count item) h.added
          ∙ append_assoc old (numbered f 0 (take count xs)) (f count item)
          ∙ ap (λ (ys : List Y). old ++ ys)
          (sym (numbered-more f 0 count xs item is ∙ ap (λ (n : ℕ). numbered f 0 (take count xs) ++ f n item) here));
    }

pub all_items : {X Y : Type 0} (f : ℕ → X → List Y) (xs : List X) (count : ℕ) (old new : List Y)
    → HasNumbered f xs count old new → count ≡ length xs → new ≡ old ++ numbered f 0 xs
all_items {X = X} {Y = Y} f xs count old new h all =
    h.added ∙ ap (λ (taken : List X). old ++ numbered f 0 taken) (take_all count xs (omega arith))
