-- The texts of nodes, one node more.
use Rattle.std.proofs.Common.{◌≡◌, ℕ, zero, suc, ◌+◌, List, [], ◌∷◌, ◌++◌, length, take, Option, Some}
use Rattle.std.proofs.Common.{sym, ap, subst, ◌∙◌, append_assoc, append-nil, arith}
use Rattle.std.specs.Io.KnownBytes.{Appends}
use Rattle.std.specs.Prelude.{slice_get}
use Rattle.std.proofs.KnownBytes.{Appends-nil, Appends-trans}
use Rattle.std.proofs.lemmas.List.{take_all}
use Rattle.fr_files.specs.NodeTexts.{of_nodes}

of_nodes-more : {X : Type 0} (text : ℕ → X → List ℕ) (node place : ℕ) (xs : List X) (item : X)
    → slice_get xs place ≡ Some item
    → of_nodes text node (take (place + 1) xs) ≡ of_nodes text node (take place xs) ++ text (node + place) item
unfolding of_nodes
of_nodes-more text node place [] item is = cc is
of_nodes-more text node zero (x ∷ xs) item is =
    let same : x ≡ item = cc is in
    let place : node ≡ node + 0 = omega arith in
    append-nil (text node x) ∙ ap (text node) same ∙ ap (λ (n : ℕ). text n item) place
of_nodes-more text node (suc place) (x ∷ xs) item is =
    let next : suc place + 1 ≡ suc (place + 1) = omega arith in
    let here : node + 1 + place ≡ node + suc place = omega arith in
    ap (λ (n : ℕ). of_nodes text node (take n (x ∷ xs))) next
    ∙ ap (λ (t : List ℕ). text node x ++ t) (of_nodes-more text (node + 1) place xs item is ∙ ap
    (λ (n : ℕ). of_nodes text (node + 1) (take place xs) ++ text n item) here)
    ∙ sym (append_assoc (text node x) (of_nodes text (node + 1) (take place xs)) (text (node + suc place) item))

-- the texts of this number of nodes have been written
pub record AreNodes {X : Type 0} (text : ℕ → X → List ℕ) (xs : List X) (count : ℕ)
    (old new : Option (List ℕ)) : Type 0 where
  pub added : Appends old new (of_nodes text 0 (take count xs))

pub no_node : {X : Type 0} (text : ℕ → X → List ℕ) (xs : List X) (old : Option (List ℕ)) → AreNodes text xs 0 old old
unfolding of_nodes
no_node text xs old = record { added = Appends-nil old }

pub one_node : {X : Type 0} (text : ℕ → X → List ℕ) (xs : List X) (count : ℕ) (item : X) (old mid new : Option (List ℕ))
    → slice_get xs count ≡ Some item
    → AreNodes text xs count old mid → Appends mid new (text count item) → AreNodes text xs (count + 1) old new
one_node text xs count item old mid new is h more =
    let here : 0 + count ≡ count = omega arith in
    record {
      added = subst (λ (t : List ℕ). Appends old new t)
          (sym (of_nodes-more text 0 count xs item is ∙ ap (λ (n : ℕ). of_nodes text 0 (take count xs) ++ text n item)
          here))
          (Appends-trans old mid new (of_nodes text 0 (take count xs)) (text count item) h.added more);
    }

pub all_nodes : {X : Type 0} (text : ℕ → X → List ℕ) (xs : List X) (count : ℕ) (old new : Option (List ℕ))
    → AreNodes text xs count old new → count ≡ length xs
    → Appends old new (of_nodes text 0 xs)
all_nodes {X = X} text xs count old new h all = subst (λ (xs : List X). Appends old new (of_nodes text 0 xs))
    (take_all count xs (omega arith)) h.added
