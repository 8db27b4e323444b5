-- The wrong word of a line, word by word, and the columns of words.
use Rattle.std.proofs.Common.{◌≡◌, ℕ, zero, suc, ◌+◌, ◌<◌, ◌≤◌, Bool, true, false, List, [], ◌∷◌, length, take, drop}
use Rattle.std.proofs.Common.{Option, Some, None, option_map, refl, sym, ap, ◌∙◌, arith, if◌then◌else◌, slice_index_or}
use Rattle.fr_lines.specs.declared.forms.WordForm.{WordForm}
use Rattle.fr_lines.specs.Forms.{fits, wrong_at}
use Rattle.fr_text.specs.Spaces.{words_of, line_of, room_of}
use Rattle.fr_text.proofs.LineLemmas.{line_of-words_of, length-line_of}
use Rattle.std.proofs.Math.Seq.{drop-cons}

-- ---- the word that is wrong

-- before the first word
pub add_none : (o : Option ℕ) → o ≡ option_map (λ n. n + 0) o
add_none None = refl
add_none (Some n) = ap Some (omega arith)

add_twice : (o : Option ℕ) (i : ℕ) → option_map (λ n. n + i) (option_map (λ n. n + 1) o) ≡ option_map
    (λ n. n + (i + 1)) o
add_twice None i = refl
add_twice (Some n) i = ap Some (omega arith)

right_first : (f : WordForm) (forms : List WordForm) (word : List ℕ) (words : List (List ℕ)) (i : ℕ) (b : Bool)
    → fits f word ≡ b → b ≡ true
    → option_map (λ n. n + i) (wrong_at (f ∷ forms) (word ∷ words)) ≡ option_map (λ n. n + (i + 1))
    (wrong_at forms words)
right_first f forms word words i true is right = rw is (add_twice (wrong_at forms words) i)
right_first f forms word words i false is right = absurd (let none : ⊥ = cc in none)

-- after a word that is right, the next one is examined
next_is : (i : ℕ) → suc i ≡ i + 1
next_is i = omega arith

pub right_more : (forms : List WordForm) (i : ℕ) (d : WordForm) (word : List ℕ) (words : List (List ℕ)) (b : Bool)
    → i < length forms
    → fits (slice_index_or forms i d) word ≡ b → b ≡ true
    → option_map (λ n. n + i) (wrong_at (drop i forms) (word ∷ words))
    ≡ option_map (λ n. n + (i + 1)) (wrong_at (drop (i + 1) forms) words)
right_more forms i d word words b lt is right =
    ap (λ fs. option_map (λ n. n + i) (wrong_at fs (word ∷ words))) (drop-cons forms i d lt)
    ∙ right_first (slice_index_or forms i d) (drop (suc i) forms) word words i b is right
    ∙ ap (λ (k : ℕ). option_map (λ n. n + (i + 1)) (wrong_at (drop k forms) words)) (next_is i)

some_at : (i : ℕ) → ◌≡◌ {A = Option ℕ} (Some (0 + i)) (Some i)
some_at i = ap Some (omega arith)

wrong_first : (f : WordForm) (forms : List WordForm) (word : List ℕ) (words : List (List ℕ)) (i : ℕ) (b : Bool)
    → fits f word ≡ b → b ≡ false → option_map (λ n. n + i) (wrong_at (f ∷ forms) (word ∷ words)) ≡ Some i
wrong_first f forms word words i false is wrong = rw is (some_at i)
wrong_first f forms word words i true is wrong = absurd (let none : ⊥ = cc in none)

-- a word that is wrong
pub wrong_here : (forms : List WordForm) (i : ℕ) (d : WordForm) (word : List ℕ) (words : List (List ℕ)) (b : Bool)
    → i < length forms
    → fits (slice_index_or forms i d) word ≡ b → b ≡ false
    → option_map (λ n. n + i) (wrong_at (drop i forms) (word ∷ words)) ≡ Some i
wrong_here forms i d word words b lt is wrong =
    ap (λ fs. option_map (λ n. n + i) (wrong_at fs (word ∷ words))) (drop-cons forms i d lt)
    ∙ wrong_first (slice_index_or forms i d) (drop (suc i) forms) word words i b is wrong

-- a word that is missing
pub missing_here : (forms : List WordForm) (i : ℕ) (d : WordForm) → i < length forms
    → option_map (λ n. n + i) (wrong_at (drop i forms) []) ≡ Some i
missing_here forms i d lt = ap (λ fs. option_map (λ n. n + i) (wrong_at fs [])) (drop-cons forms i d lt) ∙ some_at i

none_left : (forms : List WordForm) → drop (length forms) forms ≡ []
none_left [] = refl
none_left (f ∷ forms) = none_left forms

-- after the last word that the line must have
pub one_more : (forms : List WordForm) (word : List ℕ) (words : List (List ℕ))
    → option_map (λ n. n + length forms) (wrong_at (drop (length forms) forms) (word ∷ words)) ≡ Some (length forms)
one_more forms word words = ap (λ fs. option_map (λ n. n + length forms) (wrong_at fs (word ∷ words))) (none_left forms)
    ∙ some_at (length forms)

pub all_right : (forms : List WordForm)
    → option_map (λ n. n + length forms) (wrong_at (drop (length forms) forms) []) ≡ None
all_right forms = ap (λ fs. option_map (λ n. n + length forms) (wrong_at fs [])) (none_left forms)

-- ---- columns

room_front : (words : List (List ℕ)) (n : ℕ) → room_of (take n words) ≤ room_of words
room_front words zero = omega arith
room_front [] (suc n) = omega arith
room_front (word ∷ words) (suc n) = let rest = room_front words n in omega arith

room_line : (line : List ℕ) (words : List (List ℕ)) → line_of words ≡ line → room_of words ≤ length line + 1
room_line line [] is = omega arith
room_line line (word ∷ words) is =
    let same : length (line_of (word ∷ words)) ≡ length line = ap (λ l. length l) is in
    let exact = length-line_of word words in omega arith

-- a column is at most two more than the length of the line
pub column_within : (line : List ℕ) (n : ℕ) → room_of (take n (words_of line)) ≤ length line + 1
column_within line n =
    let front = room_front (words_of line) n in
    let all = room_line line (words_of line) (line_of-words_of line) in omega arith

-- ---- one word further

front_suc : (words : List (List ℕ)) (n : ℕ) (word : List ℕ) (rest : List (List ℕ)) → drop n words ≡ word ∷ rest
    → room_of (take (suc n) words) ≡ room_of (take n words) + (length word + 1)
front_suc [] zero word rest is = absurd (let none : ⊥ = cc in none)
front_suc [] (suc n) word rest is = absurd (let none : ⊥ = cc in none)
front_suc (w ∷ words) zero word rest is =
    let same : w ≡ word = cc in
    let long : length w ≡ length word = ap (λ l. length l) same in omega (arith, long)
front_suc (w ∷ words) (suc n) word rest is = let more = front_suc words n word rest is in omega (arith, more)

pub front_more : (words : List (List ℕ)) (n : ℕ) (word : List ℕ) (rest : List (List ℕ)) → drop n words ≡ word ∷ rest
    → room_of (take (n + 1) words) ≡ room_of (take n words) + (length word + 1)
front_more words n word rest is = sym (ap (λ k. room_of (take k words)) (next_is n)) ∙ front_suc words n word rest is

rest_suc : (words : List (List ℕ)) (n : ℕ) (word : List ℕ) (rest : List (List ℕ)) → drop n words ≡ word ∷ rest
    → rest ≡ drop (suc n) words
rest_suc [] zero word rest is = absurd (let none : ⊥ = cc in none)
rest_suc [] (suc n) word rest is = absurd (let none : ⊥ = cc in none)
rest_suc (w ∷ words) zero word rest is = cc
rest_suc (w ∷ words) (suc n) word rest is = rest_suc words n word rest is

pub rest_more : (words : List (List ℕ)) (n : ℕ) (word : List ℕ) (rest : List (List ℕ)) → drop n words ≡ word ∷ rest
    → rest ≡ drop (n + 1) words
rest_more words n word rest is = rest_suc words n word rest is ∙ ap (λ k. drop k words) (next_is n)

front_suc_over : (words : List (List ℕ)) (n : ℕ) → drop n words ≡ []
    → room_of (take (suc n) words) ≡ room_of (take n words)
front_suc_over [] zero is = refl
front_suc_over [] (suc n) is = refl
front_suc_over (w ∷ words) zero is = absurd (let none : ⊥ = cc in none)
front_suc_over (w ∷ words) (suc n) is = let more = front_suc_over words n is in omega (arith, more)

pub front_over : (words : List (List ℕ)) (n : ℕ) → drop n words ≡ []
    → room_of (take (n + 1) words) ≡ room_of (take n words)
front_over words n is = sym (ap (λ k. room_of (take k words)) (next_is n)) ∙ front_suc_over words n is

rest_suc_over : (words : List (List ℕ)) (n : ℕ) → drop n words ≡ [] → [] ≡ drop (suc n) words
rest_suc_over [] zero is = refl
rest_suc_over [] (suc n) is = refl
rest_suc_over (w ∷ words) zero is = absurd (let none : ⊥ = cc in none)
rest_suc_over (w ∷ words) (suc n) is = rest_suc_over words n is

pub rest_over : (words : List (List ℕ)) (n : ℕ) → drop n words ≡ [] → [] ≡ drop (n + 1) words
rest_over words n is = rest_suc_over words n is ∙ ap (λ k. drop k words) (next_is n)
