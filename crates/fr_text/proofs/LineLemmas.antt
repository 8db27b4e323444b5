-- Joining words to a line and cutting the line at its spaces are inverse.
use Rattle.std.proofs.Common.{◌≡◌, ℕ, ◌+◌, ◌≤◌, true, List, [], ◌∷◌, length, refl, ap, ◌∙◌, arith, length-append}
use Rattle.std.proofs.lemmas.List.Splits.{slice_split_at, slice_split_none, join_with_byte-slice_split}
use Rattle.fr_text.proofs.PlainLemmas.{no_space, has_no_feed-plain, has_no_feed-append}
use Rattle.fr_text.specs.Plain.{ArePlain, has_no_feed}
use Rattle.fr_text.specs.Spaces.{is_space, words_of, line_of, room_of}

pub line_of-words_of : (line : List ℕ) → line_of (words_of line) ≡ line
line_of-words_of line = join_with_byte-slice_split 32 line

pub words_of-line_of : (word : List ℕ) (words : List (List ℕ)) → ArePlain (word ∷ words)
    → words_of (line_of (word ∷ words)) ≡ word ∷ words
words_of-line_of word [] plain = slice_split_none is_space word (no_space word plain.0)
words_of-line_of word (next ∷ words) plain =
    slice_split_at is_space word 32 (line_of (next ∷ words)) (no_space word plain.0) refl
    ∙ ap (λ ws. word ∷ ws) (words_of-line_of next words plain.1)

pub has_no_feed-line_of : (words : List (List ℕ)) → ArePlain words → has_no_feed (line_of words) ≡ true
has_no_feed-line_of [] plain = refl
has_no_feed-line_of (word ∷ []) plain = has_no_feed-plain word plain.0
has_no_feed-line_of (word ∷ next ∷ words) plain =
    has_no_feed-append word (32 ∷ line_of (next ∷ words)) (has_no_feed-plain word plain.0)
    (has_no_feed-line_of (next ∷ words) plain.1)

-- the last word has no space after it
pub length-line_of : (word : List ℕ) (words : List (List ℕ))
    → length (line_of (word ∷ words)) + 1 ≡ room_of (word ∷ words)
length-line_of word [] = omega arith
length-line_of word (next ∷ words) =
    let rest = length-line_of next words in
    let both = length-append word (32 ∷ line_of (next ∷ words)) in
    omega arith

pub length-line_of-le : (words : List (List ℕ)) → length (line_of words) ≤ room_of words
length-line_of-le [] = omega arith
length-line_of-le (word ∷ words) = let exact = length-line_of word words in omega arith

-- equal word by word
pub cons_same : {A : Type 0} {x y : A} {xs ys : List A} → x ≡ y → xs ≡ ys → x ∷ xs ≡ y ∷ ys
cons_same {y = y} {xs = xs} first rest = ap (λ z. z ∷ xs) first ∙ ap (λ zs. y ∷ zs) rest
