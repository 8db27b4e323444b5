-- The words of a line, from its first space.
use Rattle.std.proofs.Common.{◌≡◌, ℕ, ◌+◌, ◌≤◌, inl, inr, List, [], ◌∷◌, length, take, drop, Some, None, refl, ap, ◌∙◌}
use Rattle.std.proofs.Common.{arith, ltb, ◌<◌, true, zero, suc, get_or, sym, length-take}
use Rattle.std.proofs.lemmas.Bool.Decides.{nat_tests}
use Rattle.std.proofs.lemmas.Bool.{cases_Bool, ltb-true, lt-ltb, le-ltb}
use Rattle.std.proofs.lemmas.List.{drop-drop, get_or-take, take_all}
use Rattle.std.proofs.lemmas.Str.Parse.{digit_at}
use Rattle.std.specs.Str.Parse.{AllDigits}
use Rattle.fr_text.proofs.HexTextLemmas.{bytes_takes}
use Rattle.fr_text.proofs.PlainLemmas.{plain_no_space, IsPlain-hex_text}
use Rattle.fr_text.specs.Plain.{IsPlain}
use Rattle.fr_text.specs.Reading.{first_in, bytes_in}
use Rattle.std.proofs.lemmas.List.Splits.{slice_split_first, slice_split-cons_no}
use Rattle.std.specs.List.{position, position_or_len, slice_split, onto_first}
use Rattle.memchr.specs.Find.{IsFirstByte, is_byte}
use Rattle.std.specs.Prelude.{Option}
use Rattle.fr_text.specs.Spaces.{is_space, words_of}
use Rattle.fr_text.specs.Words.{ended}

split_none : (xs : List ℕ) → length xs ≤ position_or_len is_space xs → slice_split is_space xs ≡ xs ∷ []
split_none [] h = refl
split_none (x ∷ xs) h =
    elim (cases_Bool (is_space x)) [
      | inl pass ↦
          let none : position_or_len is_space (x ∷ xs) ≡ 0 = rw pass refl in
          absurd (omega arith)
      | inr fail ↦
          let more : position_or_len is_space (x ∷ xs) ≡ position_or_len is_space xs + 1 = rw fail (omega arith) in
          slice_split-cons_no is_space x xs fail ∙ ap (onto_first x) (split_none xs (omega arith))
    ]

-- the line has its first space at this place
pub cut_at : (line : List ℕ) (at : ℕ) → position is_space line ≡ Some at
    → words_of line ≡ take at line ∷ words_of (drop (at + 1) line)
cut_at line at found =
    let first = position_or_len is_space line in
    elim (cases_Bool (ltb first (length line))) [
      | inl pass ↦
          let is : first ≡ at = cc (rw pass at found) in
          rw (← is) (slice_split_first is_space line 0 (ltb-true first (length line) pass))
      | inr fail ↦ cc (rw fail at found)
    ]

-- the line has no space
pub cut_none : (line : List ℕ) → position is_space line ≡ None → words_of line ≡ line ∷ []
cut_none line none =
    let first = position_or_len is_space line in
    elim (cases_Bool (ltb first (length line))) [
      | inl pass ↦ cc (rw pass at none)
      | inr fail ↦ split_none line (grind arith)
    ]

words_by : (line : List ℕ) (at : Option ℕ) → position is_space line ≡ at → ended (words_of line) ≡ None
words_by line (Some at) found = rw (cut_at line at found) refl
words_by line None none = rw (cut_none line none) refl

-- each line has a word, perhaps the empty one
pub words_some : (line : List ℕ) → ended (words_of line) ≡ None
words_some line = words_by line _ refl

-- ---- the first space, from the result of a search

first_at : (line : List ℕ) (k : ℕ) → k < length line → is_space (get_or line k 0) ≡ true
    → ((j : ℕ) → j < k → is_space (get_or line j 0) ≡ true → ⊥) → position_or_len is_space line ≡ k
first_at [] k lt here before = absurd (omega arith)
first_at (b ∷ line) zero lt here before = rw here refl
first_at (b ∷ line) (suc k) lt here before =
    elim (cases_Bool (is_space b)) [
      | inl pass ↦ absurd (before 0 (omega arith) pass)
      | inr fail ↦
          let rest : position_or_len is_space line ≡ k =
          first_at line k (omega arith) here (λ j less. before (suc j) (omega arith)) in
          rw fail (omega arith)
    ]

first_none : (line : List ℕ) → ((j : ℕ) → j < length line → is_space (get_or line j 0) ≡ true → ⊥)
    → length line ≤ position_or_len is_space line
first_none [] none = omega arith
first_none (b ∷ line) none =
    elim (cases_Bool (is_space b)) [
      | inl pass ↦ absurd (none 0 (omega arith) pass)
      | inr fail ↦
          let rest : length line ≤ position_or_len is_space line =
          first_none line (λ j less. none (suc j) (omega arith)) in
          rw fail (omega arith)
    ]

space_at : (line : List ℕ) (k : ℕ) → k < length line → is_space (get_or line k 0) ≡ true
    → ((j : ℕ) → j < k → is_space (get_or line j 0) ≡ true → ⊥) → Some k ≡ position is_space line
space_at line k lt here before = rw (first_at line k lt here before, lt-ltb k (length line) lt) refl

space_nowhere : (line : List ℕ) → ((j : ℕ) → j < length line → is_space (get_or line j 0) ≡ true → ⊥)
    → None ≡ position is_space line
space_nowhere line none = rw (le-ltb (position_or_len is_space line) (length line) (first_none line none)) refl

pub first_space : (line : List ℕ) (found : Option ℕ) → IsFirstByte (is_byte 32) line found
    → found ≡ position is_space line
first_space line (Some k) first =
    space_at line k first.0.high first.1 (λ j less is. first.0.before j (omega arith) less is)
first_space line None none = space_nowhere line (λ j less is. none j (omega arith) less is)

-- ---- the word in front, without a space in it

abbrev pub HasNoSpace : ℕ → List ℕ → Type 0
HasNoSpace k line = (j : ℕ) → j < k → is_space (get_or line j 0) ≡ true → ⊥

pub no_space-digits : (line : List ℕ) (k : ℕ) → AllDigits 10 (take k line) → k ≤ length line → HasNoSpace k line
no_space-digits line k digits within j less is =
    let range = digit_at (take k line) j digits (omega (arith, length-take k line)) in
    let same = get_or-take k line j 0 less in
    let space : get_or line j 0 ≡ 32 = grind (arith, nat_tests) in
    omega (arith, same, range.0, space)

pub no_space-bytes : (most : ℕ) (line bs : List ℕ) (k : ℕ) → bytes_in most (take k line) ≡ Some bs → HasNoSpace k line
no_space-bytes most line bs k read j less is =
    let plain : IsPlain (take k line) = rw (bytes_takes most (take k line) bs read).0 (IsPlain-hex_text bs) in
    plain_no_space (take k line) j plain (ap is_space (get_or-take k line j 0 less) ∙ is)

whole_at : (line : List ℕ) (k : ℕ) → k ≡ length line → take k line ≡ line
whole_at line k is = take_all k line (omega arith)

-- the word is the whole line
pub first_whole : {A : Type 0} (read : List ℕ → Option A) (words : List (List ℕ)) (line : List ℕ) (k : ℕ) (x : A)
    → words_of line ≡ words → k ≡ length line → HasNoSpace k line → read (take k line) ≡ Some x
    → (first_in read words ≡ Some x) × ([] ≡ drop 1 words)
first_whole read words line k x left is bare found =
    let none = space_nowhere line (λ j less space. bare j (omega arith) space) in
    let one : words_of line ≡ line ∷ [] = cut_none line (sym none) in
    let all = whole_at line k is in
    let told : read line ≡ Some x = rw all at found in
    (rw (← left, one) told, rw (← left, one) refl)

-- the word ends at a space
pub first_before : {A : Type 0} (read : List ℕ → Option A) (words : List (List ℕ)) (line : List ℕ) (k : ℕ) (x : A)
    → words_of line ≡ words → k < length line → get_or line k 0 ≡ 32 → HasNoSpace k line
    → read (take k line) ≡ Some x → (first_in read words ≡ Some x) × (words_of (drop (k + 1) line) ≡ drop 1 words)
first_before read words line k x left lt here bare found =
    let space : is_space (get_or line k 0) ≡ true = rw here refl in
    let first = space_at line k lt space bare in
    let cut = cut_at line k (sym first) in
    (rw (← left, cut) found, rw (← left, cut) refl)

-- two words that spell bytes
pub two_words : (most : ℕ) (words : List (List ℕ)) (line first second : List ℕ) (k : ℕ) → words_of line ≡ words
    → k < length line → get_or line k 0 ≡ 32 → bytes_in most (take k line) ≡ Some first
    → bytes_in most (drop (k + 1) line) ≡ Some second
    → (first_in (bytes_in most) words ≡ Some first) × (first_in (bytes_in most) (drop 1 words) ≡ Some second)
    × (drop 2 words ≡ [])
two_words most words line first second k left lt here read_first read_second =
    let read = bytes_in most in
    let last = drop (k + 1) line in
    let before = first_before read words line k first left lt here (no_space-bytes most line first k read_first)
    read_first in
    let whole : read (take (length last) last) ≡ Some second = rw (whole_at last (length last) refl) read_second in
    let after = first_whole read (drop 1 words) last (length last) second before.1 refl
    (no_space-bytes most last second _ whole) whole in
    (before.0, after.0, sym (after.1 ∙ drop-drop 1 1 words))
