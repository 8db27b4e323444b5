-- The nodes of a list, piece by piece.
use Rattle.std.proofs.Common.{◌≡◌, ℕ, zero, suc, ◌+◌, Bool, false, cond, List, [], ◌∷◌, Option, Some, None}
use Rattle.std.proofs.Common.{refl, sym, ap, ◌∙◌, drop, is_some, arith}
use Rattle.std.specs.Prelude.{slice_get}
use Rattle.clap.specs.Words.{Text}
use Rattle.fr_cli.specs.NodeLists.{no_nodes, nodes_after, nodes_in, pieces_of, with_piece}

-- once a piece is refused, the list is
refused : (pieces : List Text) → nodes_after None pieces ≡ None
refused [] = refl
refused (piece ∷ pieces) = refused pieces

-- the pieces from a place on
from_next : (pieces : List Text) (place : ℕ) (piece : Text) → slice_get pieces place ≡ Some piece
    → drop place pieces ≡ piece ∷ drop (suc place) pieces
from_next [] place piece is = absurd (let none : ⊥ = cc is in none)
from_next (p ∷ ps) zero piece is = ap (λ (q : Text). q ∷ ps) (let same : p ≡ piece = cc is in same)
from_next (p ∷ ps) (suc place) piece is = from_next ps place piece is

from_piece : (pieces : List Text) (place : ℕ) (piece : Text) → slice_get pieces place ≡ Some piece
    → drop place pieces ≡ piece ∷ drop (place + 1) pieces
from_piece pieces place piece is =
    let next : suc place ≡ place + 1 = omega arith in
    from_next pieces place piece is ∙ ap (λ k. piece ∷ drop k pieces) next

from_end : (pieces : List Text) (place : ℕ) → slice_get pieces place ≡ None → drop place pieces ≡ []
from_end [] zero is = refl
from_end [] (suc place) is = refl
from_end (p ∷ ps) zero is = absurd (let none : ⊥ = cc is in none)
from_end (p ∷ ps) (suc place) is = from_end ps place is

none_by : {X : Type 0} (o : Option X) → is_some o ≡ false → o ≡ None
none_by None is = refl
none_by (Some x) is = absurd (let none : ⊥ = cc is in none)

module _ (word : Text) where
  -- the pieces before this place name these nodes
  abbrev pub SoFar : ℕ → List Bool → Type 0
  SoFar place nodes =
      nodes_after (Some no_nodes) (pieces_of word) ≡ nodes_after (Some nodes) (drop place (pieces_of word))

  pub one_more : (place : ℕ) (nodes more : List Bool) (piece : Text)
      → slice_get (pieces_of word) place ≡ Some piece → with_piece nodes piece ≡ Some more → SoFar place nodes
      → SoFar (place + 1) more
  one_more place nodes more piece at is so_far =
      so_far ∙ ap (nodes_after (Some nodes)) (from_piece (pieces_of word) place piece at)
      ∙ ap (λ o. nodes_after o (drop (place + 1) (pieces_of word))) is

  few : is_some (slice_get (pieces_of word) 16) ≡ false
      → nodes_in word ≡ nodes_after (Some no_nodes) (pieces_of word)
  few is = ap (λ b. cond b None (nodes_after (Some no_nodes) (pieces_of word))) is

  pub wrong : (place : ℕ) (nodes : List Bool) (piece : Text) → is_some (slice_get (pieces_of word) 16) ≡ false
      → slice_get (pieces_of word) place ≡ Some piece → with_piece nodes piece ≡ None → SoFar place nodes
      → None ≡ nodes_in word
  wrong place nodes piece short at is so_far =
      sym (few short ∙ so_far ∙ ap (nodes_after (Some nodes)) (from_piece (pieces_of word) place piece at)
      ∙ ap (λ o. nodes_after o (drop (place + 1) (pieces_of word))) is
      ∙ refused (drop (place + 1) (pieces_of word)))

  pub ended : (place : ℕ) (nodes : List Bool) → is_some (slice_get (pieces_of word) 16) ≡ false
      → slice_get (pieces_of word) place ≡ None → SoFar place nodes → Some nodes ≡ nodes_in word
  ended place nodes short at so_far =
      sym (few short ∙ so_far ∙ ap (nodes_after (Some nodes)) (from_end (pieces_of word) place at))

  pub filled : (nodes : List Bool) → is_some (slice_get (pieces_of word) 16) ≡ false → SoFar 16 nodes
      → Some nodes ≡ nodes_in word
  filled nodes short so_far = ended 16 nodes short (none_by (slice_get (pieces_of word) 16) short) so_far
