-- The parts of a word around a mark, and the words of a line that has one space between two words.
use Rattle.std.proofs.Common.{◌≡◌, ℕ, suc, ◌+◌, ◌<◌, ◌==◌, ◌||◌, Bool, true, false, List, [], ◌∷◌, ◌++◌}
use Rattle.std.proofs.Common.{length, take, drop, Some, None, refl, ap, ◌∙◌, arith, length-append, ltb}
use Rattle.std.proofs.lemmas.Bool.{or_parts, le-ltb, lt-ltb}
use Rattle.std.proofs.lemmas.List.Elements.{All-nil, All-cons}
use Rattle.std.proofs.lemmas.List.Splits.{slice_split_at, slice_split_none}
use Rattle.std.specs.List.{All, filter, position, position_or_len, slice_split}
use Rattle.fr_scenario.specs.BlankWords.{is_blank, is_mark, has_bytes, before_comment, pieces_of, blank_words}
use Rattle.fr_scenario.specs.Lists.{elements_of, is_comma}
use Rattle.fr_scenario.specs.StatementParts.{parted}
use Rattle.fr_text.specs.Spaces.{line_of}

-- ---- the first byte that passes

-- no byte passes
abbrev pub lacks : (ℕ → Bool) → List ℕ → Type 0
lacks p [] = Unit {0}
lacks p (x ∷ xs) = (p x ≡ false) × lacks p xs

pub lacks-append : (p : ℕ → Bool) (xs ys : List ℕ) → lacks p xs → lacks p ys → lacks p (xs ++ ys)
lacks-append p [] ys hx hy = hy
lacks-append p (x ∷ xs) ys hx hy = (hx.0, lacks-append p xs ys hx.1 hy)

place_none : (p : ℕ → Bool) (xs : List ℕ) → lacks p xs → position_or_len p xs ≡ length xs
place_none p [] h = refl
place_none p (x ∷ xs) h =
    let rest = place_none p xs h.1 in
    let more : position_or_len p (x ∷ xs) ≡ position_or_len p xs + 1 = rw (h.0) (omega arith) in
    omega (arith, more, rest)

place_here : (p : ℕ → Bool) (xs : List ℕ) (y : ℕ) (ys : List ℕ) → lacks p xs → p y ≡ true
    → position_or_len p (xs ++ y ∷ ys) ≡ length xs
place_here p [] y ys h pass = rw pass refl
place_here p (x ∷ xs) y ys h pass =
    let rest = place_here p xs y ys h.1 pass in
    let more : position_or_len p (x ∷ xs ++ y ∷ ys) ≡ position_or_len p (xs ++ y ∷ ys) + 1 = rw (h.0) (omega arith) in
    omega (arith, more, rest)

take_front : (xs ys : List ℕ) → take (length xs) (xs ++ ys) ≡ xs
take_front [] ys = refl
take_front (x ∷ xs) ys = ap (λ (zs : List ℕ). x ∷ zs) (take_front xs ys)

drop_past : (xs : List ℕ) (y : ℕ) (ys : List ℕ) → drop (length xs + 1) (xs ++ y ∷ ys) ≡ ys
drop_past [] y ys = refl
drop_past (x ∷ xs) y ys =
    let more : length (x ∷ xs) + 1 ≡ suc (length xs + 1) = omega arith in
    ap (λ (n : ℕ). drop n (x ∷ xs ++ y ∷ ys)) more ∙ drop_past xs y ys

-- ---- a mark

pub parted_none : (mark : ℕ) (word : List ℕ) → lacks (λ b. b == mark) word → parted mark word ≡ None
parted_none mark word h =
    let p : ℕ → Bool = λ b. b == mark in
    let none : ltb (position_or_len p word) (length word) ≡ false =
    rw (place_none p word h) (le-ltb (length word) (length word) (omega arith)) in
    let is : position p word ≡ None = rw none refl in
    rw is refl

pub parted_here : (mark : ℕ) (xs ys : List ℕ) → lacks (λ b. b == mark) xs → (mark == mark) ≡ true
    → parted mark (xs ++ mark ∷ ys) ≡ Some (xs, ys)
parted_here mark xs ys h same =
    let p : ℕ → Bool = λ b. b == mark in
    let word : List ℕ = xs ++ mark ∷ ys in
    let at : position_or_len p word ≡ length xs = place_here p xs mark ys h same in
    let long : length word ≡ length xs + length (mark ∷ ys) = length-append xs (mark ∷ ys) in
    let within : position_or_len p word < length word = omega (arith, at, long) in
    let some : ltb (position_or_len p word) (length word) ≡ true =
    lt-ltb (position_or_len p word) (length word) within in
    let is : position p word ≡ Some (length xs) = rw some (ap (λ (n : ℕ). Some n) at) in
    rw (is, take_front xs (mark ∷ ys), drop_past xs mark ys) refl

-- ---- words with one space between two

-- a word without blanks, marks of comments and commas, of at least one byte
abbrev pub is_bare_not : ℕ → Bool
is_bare_not b = (is_blank b || is_mark b) || is_comma b

pub record IsBare (word : List ℕ) : Type 0 where
  pub some : has_bytes word ≡ true
  pub bare : lacks is_bare_not word

abbrev pub AreBare : List (List ℕ) → Type 0
AreBare [] = Unit {0}
AreBare (word ∷ words) = IsBare word × AreBare words

lacks_mark : (word : List ℕ) → lacks is_bare_not word → lacks is_mark word
lacks_mark [] h = tt
lacks_mark (x ∷ xs) h =
    let parts = or_parts (is_blank x || is_mark x) (is_comma x) h.0 in
    ((or_parts (is_blank x) (is_mark x) parts.0).1, lacks_mark xs h.1)

lacks_blank : (word : List ℕ) → lacks is_bare_not word → lacks is_blank word
lacks_blank [] h = tt
lacks_blank (x ∷ xs) h =
    let parts = or_parts (is_blank x || is_mark x) (is_comma x) h.0 in
    ((or_parts (is_blank x) (is_mark x) parts.0).0, lacks_blank xs h.1)

lacks_comma : (word : List ℕ) → lacks is_bare_not word → lacks is_comma word
lacks_comma [] h = tt
lacks_comma (x ∷ xs) h = ((or_parts (is_blank x || is_mark x) (is_comma x) h.0).1, lacks_comma xs h.1)

all_of : (p : ℕ → Bool) (word : List ℕ) → lacks p word → All (λ b. p b ≡ false) word
all_of p [] h = All-nil (λ b. p b ≡ false)
all_of p (x ∷ xs) h = All-cons (λ b. p b ≡ false) x xs h.0 (all_of p xs h.1)

-- a word without commas is its only element
pub only_element : (word : List ℕ) → IsBare word → elements_of word ≡ word ∷ []
only_element word h = slice_split_none is_comma word (all_of is_comma word (lacks_comma word h.bare))

no_mark : (words : List (List ℕ)) → AreBare words → lacks is_mark (line_of words)
no_mark [] h = tt
no_mark (word ∷ []) h = lacks_mark word h.0.bare
no_mark (word ∷ next ∷ words) h =
    lacks-append is_mark word (32 ∷ line_of (next ∷ words)) (lacks_mark word h.0.bare)
    (refl, no_mark (next ∷ words) h.1)

split_again : (word : List ℕ) (words : List (List ℕ)) → AreBare (word ∷ words)
    → slice_split is_blank (line_of (word ∷ words)) ≡ word ∷ words
split_again word [] h = slice_split_none is_blank word (all_of is_blank word (lacks_blank word h.0.bare))
split_again word (next ∷ words) h =
    slice_split_at is_blank word 32 (line_of (next ∷ words)) (all_of is_blank word (lacks_blank word h.0.bare)) refl
    ∙ ap (λ (ws : List (List ℕ)). word ∷ ws) (split_again next words h.1)

all_kept : (words : List (List ℕ)) → AreBare words → filter has_bytes words ≡ words
all_kept [] h = refl
all_kept (word ∷ words) h = rw (h.0.some) (ap (λ (ws : List (List ℕ)). word ∷ ws) (all_kept words h.1))

pieces_again : (words : List (List ℕ)) → AreBare words → pieces_of (line_of words) ≡ words
pieces_again [] h = refl
pieces_again (word ∷ words) h = ap (filter has_bytes) (split_again word words h) ∙ all_kept (word ∷ words) h

take_whole : (xs : List ℕ) → take (length xs) xs ≡ xs
take_whole [] = refl
take_whole (x ∷ xs) = ap (λ (zs : List ℕ). x ∷ zs) (take_whole xs)

-- the words of such a line are these
pub words_again : (words : List (List ℕ)) → AreBare words → blank_words (line_of words) ≡ words
words_again words h =
    let line : List ℕ = line_of words in
    let whole : before_comment line ≡ line =
    ap (λ (n : ℕ). take n line) (place_none is_mark line (no_mark words h)) ∙ take_whole line in
    ap pieces_of whole ∙ pieces_again words h
