-- The lines of a text, from its first line feed.
use Rattle.std.proofs.Common.{◌≡◌, ℕ, ◌+◌, ◌≤◌, inl, inr, List, [], ◌∷◌, length, take, drop, Some, None, refl, ap, ◌∙◌}
use Rattle.std.proofs.Common.{arith, ltb, ◌<◌, ◌==◌, true, false, zero, suc, get_or, Err, sym, length-take}
use Rattle.std.proofs.lemmas.Bool.{cases_Bool, ltb-true, lt-ltb, le-ltb}
use Rattle.std.proofs.lemmas.List.Splits.{slice_split-cons_no, slice_split-cons_yes}
use Rattle.std.specs.List.{position, position_or_len, onto_first}
use Rattle.memchr.specs.Find.{IsFirstByte}
use Rattle.std.proofs.lemmas.Bool.Decides.{nat_tests}
use Rattle.std.specs.Prelude.{Bool, Ok, Option}
use Rattle.fr_scenario.proofs.BlankLemmas.{cut_at, cut_none}
use Rattle.fr_scenario.specs.declared.error.ScenarioError.{ScenarioError}
use Rattle.fr_scenario.specs.declared.error.ScenarioError.TheVariants.{BadLine, TooManyLines, Truncated}
use Rattle.fr_scenario.specs.Reading.{lines_in, next_line, read_from, whole_line, is_at_end}
use Rattle.fr_text.specs.Plain.{is_feed}

-- ---- the first such byte, from the result of a search

module _ (is : ℕ → Bool) where
  first_at : (text : List ℕ) (k : ℕ) → k < length text → is (get_or text k 0) ≡ true
      → ((j : ℕ) → j < k → is (get_or text j 0) ≡ true → ⊥) → position_or_len is text ≡ k
  first_at [] k lt here before = absurd (omega arith)
  first_at (b ∷ text) zero lt here before = rw here refl
  first_at (b ∷ text) (suc k) lt here before =
      elim (cases_Bool (is b)) [
        | inl pass ↦ absurd (before 0 (omega arith) pass)
        | inr fail ↦
            let rest : position_or_len is text ≡ k = first_at text k (omega arith) here
            (λ j less. before (suc j) (omega arith)) in
            rw fail (omega arith)
      ]

  first_none : (text : List ℕ) → ((j : ℕ) → j < length text → is (get_or text j 0) ≡ true → ⊥)
      → length text ≤ position_or_len is text
  first_none [] none = omega arith
  first_none (b ∷ text) none =
      elim (cases_Bool (is b)) [
        | inl pass ↦ absurd (none 0 (omega arith) pass)
        | inr fail ↦
            let rest : length text ≤ position_or_len is text =
            first_none text (λ j less. none (suc j) (omega arith)) in
            rw fail (omega arith)
      ]

  byte_at : (text : List ℕ) (k : ℕ) → k < length text → is (get_or text k 0) ≡ true
      → ((j : ℕ) → j < k → is (get_or text j 0) ≡ true → ⊥) → Some k ≡ position is text
  byte_at text k lt here before = rw (first_at text k lt here before, lt-ltb k (length text) lt) refl

  byte_nowhere : (text : List ℕ) → ((j : ℕ) → j < length text → is (get_or text j 0) ≡ true → ⊥)
      → None ≡ position is text
  byte_nowhere text none = rw (le-ltb (position_or_len is text) (length text) (first_none text none)) refl

  pub first_byte : (text : List ℕ) (found : Option ℕ) → IsFirstByte is text found → found ≡ position is text
  first_byte text (Some k) first = byte_at text k first.0.high first.1
      (λ j less same. first.0.before j (omega arith) less same)
  first_byte text None none = byte_nowhere text (λ j less same. none j (omega arith) less same)

-- ---- a text has at least one line

pub some_line : (text : List ℕ) → (first : List ℕ) × (more : List (List ℕ)) × (lines_in text ≡ first ∷ more)
some_line [] = ([], [], refl)
some_line (b ∷ text) =
    let (first, more, is) = some_line text in
    elim (cases_Bool (is_feed b)) [
      | inl pass ↦ ([], first ∷ more, slice_split-cons_yes is_feed b text pass ∙ ap (λ lines. [] ∷ lines) is)
      | inr fail ↦ (b ∷ first, more, slice_split-cons_no is_feed b text fail ∙ ap (onto_first b) is)
    ]

-- a text with a byte isn't at its end
at_end_not : (first : List ℕ) (more : List (List ℕ)) → is_at_end ([] ∷ first ∷ more) ≡ false
at_end_not first more = refl

pub at_end : (text : List ℕ) → (length text == 0) ≡ is_at_end (lines_in text)
at_end [] = refl
at_end (b ∷ text) =
    let some : (length (b ∷ text) == 0) ≡ false = grind (arith, nat_tests) in
    let (first, more, is) = some_line text in
    elim (cases_Bool (is_feed b)) [
      | inl pass ↦
          let cut : lines_in (b ∷ text) ≡ [] ∷ first ∷ more =
          slice_split-cons_yes is_feed b text pass ∙ ap (λ lines. [] ∷ lines) is in
          some ∙ sym (ap is_at_end cut ∙ at_end_not first more)
      | inr fail ↦
          let cut : lines_in (b ∷ text) ≡ (b ∷ first) ∷ more =
          slice_split-cons_no is_feed b text fail ∙ ap (onto_first b) is in
          some ∙ sym (ap is_at_end cut)
    ]

-- ---- one line

at_within : (text : List ℕ) (at : ℕ) → position is_feed text ≡ Some at → at < length text
at_within text at found =
    let first = position_or_len is_feed text in
    elim (cases_Bool (ltb first (length text))) [
      | inl pass ↦
          let is : first ≡ at = cc (rw pass at found) in
          let lt = ltb-true first (length text) pass in
          omega arith
      | inr fail ↦ cc (rw fail at found)
    ]

-- a line that ends with a line feed at this place
next_is : (n : ℕ) (line : List ℕ) (rest : List (List ℕ)) (other : List ℕ) (more : List (List ℕ)) → rest ≡ other ∷ more
    → length line ≤ 1200 → next_line n (line ∷ rest) ≡ Ok line
next_is n line rest other more is short = ap (λ lines. next_line n (line ∷ lines)) is
    ∙ rw (le-ltb 1200 (length line) short) refl

next_is_long : (n : ℕ) (line : List ℕ) (rest : List (List ℕ)) → 1200 < length line
    → next_line n (line ∷ rest) ≡ Err (BadLine n)
next_is_long n line [] long = rw (lt-ltb 1200 (length line) long) refl
next_is_long n line (other ∷ more) long = rw (lt-ltb 1200 (length line) long) refl

pub next_long : (n : ℕ) (text : List ℕ) (at : ℕ) → position is_feed text ≡ Some at → 1200 < at
    → next_line n (lines_in text) ≡ Err (BadLine n)
next_long n text at found long =
    let within = at_within text at found in
    let len = length-take at text in
    ap (next_line n) (cut_at is_feed text at found) ∙ next_is_long n (take at text) _ (omega arith)

pub next_whole : (n : ℕ) (text : List ℕ) (at : ℕ) → position is_feed text ≡ Some at → at ≤ 1200
    → next_line n (lines_in text) ≡ Ok (take at text)
next_whole n text at found short =
    let (other, more, is) = some_line (drop (at + 1) text) in
    let len = length-take at text in
    ap (next_line n) (cut_at is_feed text at found) ∙ next_is n (take at text) _ other more is (omega arith)

pub next_left : (text : List ℕ) (at : ℕ) → position is_feed text ≡ Some at
    → lines_in (drop (at + 1) text) ≡ drop 1 (lines_in text)
next_left text at found = sym (ap (drop 1) (cut_at is_feed text at found))

pub next_last_long : (n : ℕ) (text : List ℕ) → position is_feed text ≡ None → 1200 < length text
    → next_line n (lines_in text) ≡ Err (BadLine n)
next_last_long n text none long = ap (next_line n) (cut_none is_feed text none) ∙ next_is_long n text [] long

pub next_last : (n : ℕ) (text : List ℕ) → position is_feed text ≡ None → length text ≤ 1200
    → next_line n (lines_in text) ≡ Err Truncated
next_last n text none short =
    ap (next_line n) (cut_none is_feed text none) ∙ rw (le-ltb 1200 (length text) short) refl

-- ---- the lines of a version, after one line

module _ {V : Type 0} (is_last : List ℕ → Bool) (value : List ℕ → Option V) where
  pub read_next : (n : ℕ) (lines : List (List ℕ)) (line : List ℕ) → n ≤ 4096 → next_line n lines ≡ Ok line
      → read_from is_last value n lines
      ≡ whole_line is_last value n line (drop 1 lines) (read_from is_last value (n + 1) (drop 1 lines))
  read_next n [] line few h = cc h
  read_next n (last ∷ []) line few h =
      elim (cases_Bool (ltb 1200 (length last))) [ inl long ↦ cc (rw long at h) | inr short ↦ cc (rw short at h) ]
  read_next n (first ∷ other ∷ rest) line few h =
      elim (cases_Bool (ltb 1200 (length first))) [
        | inl long ↦ cc (rw long at h)
        | inr short ↦
            let is : first ≡ line = cc (rw short at h) in
            rw (le-ltb 4096 n few, short) (ap (λ l. whole_line is_last value n l (other ∷ rest)
            (read_from is_last value (n + 1) (other ∷ rest))) is)
      ]

  pub read_refused : (n : ℕ) (lines : List (List ℕ)) (e : ScenarioError) → n ≤ 4096 → next_line n lines ≡ Err e
      → read_from is_last value n lines ≡ Err e
  read_refused n [] e few h = let same : Truncated ≡ e = cc h in rw same refl
  read_refused n ([] ∷ []) e few h = let same : Truncated ≡ e = cc h in rw same refl
  read_refused n ((b ∷ line) ∷ []) e few h =
      elim (cases_Bool (ltb 1200 (length (b ∷ line)))) [
        | inl long ↦ let same : BadLine n ≡ e = cc (rw long at h) in rw (le-ltb 4096 n few, long, same) refl
        | inr short ↦ let same : Truncated ≡ e = cc (rw short at h) in rw (le-ltb 4096 n few, short, same) refl
      ]
  read_refused n (first ∷ other ∷ rest) e few h =
      elim (cases_Bool (ltb 1200 (length first))) [
        | inl long ↦ let same : BadLine n ≡ e = cc (rw long at h) in rw (le-ltb 4096 n few, long, same) refl
        | inr short ↦ cc (rw short at h)
      ]

  -- ---- after the last line of the largest text

  pub read_past_end : (lines : List (List ℕ)) → is_at_end lines ≡ true
      → read_from is_last value 4097 lines ≡ Err Truncated
  read_past_end [] h = refl
  read_past_end ([] ∷ []) h = refl
  read_past_end ((b ∷ line) ∷ []) h = cc h
  read_past_end ([] ∷ next ∷ more) h = cc h
  read_past_end ((b ∷ line) ∷ next ∷ more) h = cc h

  pub read_past_more : (lines : List (List ℕ)) → is_at_end lines ≡ false
      → read_from is_last value 4097 lines ≡ Err TooManyLines
  read_past_more [] h = cc h
  read_past_more ([] ∷ []) h = cc h
  read_past_more ((b ∷ line) ∷ []) h = refl
  read_past_more ([] ∷ next ∷ more) h = refl
  read_past_more ((b ∷ line) ∷ next ∷ more) h = refl
