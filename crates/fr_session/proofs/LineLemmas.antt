-- Lines, as they come from a reader piece by piece.
use Rattle.std.proofs.Common.{◌≡◌, ℕ, zero, suc, ◌+◌, ◌<◌, ◌≤◌, ltb, true, false, List, [], ◌∷◌, ◌++◌, length, take}
use Rattle.std.proofs.Common.{get_or, Option, Some, None, IfSome, inl, inr, refl, sym, ap, subst, ◌∙◌, append_assoc}
use Rattle.std.proofs.Common.{arith, length-take}
use Rattle.std.proofs.lemmas.Bool.{cases_Bool, eqb-true, ltb-true, ltb-false, lt-ltb}
use Rattle.std.proofs.lemmas.List.{append-nil, take_more}
use Rattle.std.proofs.BufReadLemmas.{Consumes_shown}
use Rattle.std.proofs.KnownBytes.{Consumes-kept, Consumes-nil, Consumes-trans}
use Rattle.std.specs.Io.{StartsWith}
use Rattle.std.specs.Io.BufRead.{DropsConsumable}
use Rattle.std.specs.Io.KnownBytes.{Consumes, IsAtEnd, Keeps}
use Rattle.memchr.specs.Find.{IsFirstByte, is_byte}
use Rattle.fr_session.specs.Lines.{Comes, ComesFront, IsLine, TakesPiece, line_front}
use Rattle.fr_session.specs.declared.lines.Piece.TheVariants.{Last, Part, Nothing}
use Rattle.fr_session.specs.Reading.{asked_in}
use Rattle.fr_text.proofs.PlainLemmas.{has_no_feed-append}
use Rattle.fr_text.specs.Plain.{is_feed}

-- ---- fronts

take_fits : (n k : ℕ) (ys : List ℕ) → k ≤ n → (k < n → length ys ≤ k) → take k ys ≡ take n ys
take_fits zero zero ys le all = refl
take_fits zero (suc k) ys le all = absurd (omega arith)
take_fits (suc n) zero [] le all = refl
take_fits (suc n) zero (y ∷ ys) le all = absurd (omega (arith, all (omega arith)))
take_fits (suc n) (suc k) [] le all = refl
take_fits (suc n) (suc k) (y ∷ ys) le all =
    ap (λ l. y ∷ l) (take_fits n k ys (omega arith) (λ less. let more = all (omega arith) in omega (arith, more)))

front_fits : (n : ℕ) (xs ys : List ℕ) (k : ℕ) → length xs + k ≤ n → (length xs + k < n → length ys ≤ k)
    → xs ++ take k ys ≡ take n (xs ++ ys)
front_fits n [] ys k le all = take_fits n k ys (omega arith) (λ less. all (omega arith))
front_fits zero (x ∷ xs) ys k le all = absurd (omega arith)
front_fits (suc n) (x ∷ xs) ys k le all = ap (λ l. x ∷ l) (front_fits n xs ys k (omega arith)
    (λ less. all (omega arith)))

-- the part of a line for which there is room
pub kept_front : (line more : List ℕ) (k : ℕ) → length line + k ≤ 1201 → (length line + k < 1201 → length more ≤ k)
    → line ++ take k more ≡ line_front (line ++ more)
kept_front line more k = front_fits 1201 line more k

front_of : (n : ℕ) (xs ys : List ℕ) → take n (take n xs ++ ys) ≡ take n (xs ++ ys)
front_of zero xs ys = refl
front_of (suc n) [] ys = refl
front_of (suc n) (x ∷ xs) ys = ap (λ l. x ∷ l) (front_of n xs ys)

-- the front of a line that continues
front_more : (line more : List ℕ) → line_front (line_front line ++ more) ≡ line_front (line ++ more)
front_more line more = front_of 1201 line more

take_whole : (n : ℕ) (xs : List ℕ) → length xs ≤ n → take n xs ≡ xs
take_whole zero [] few = refl
take_whole zero (x ∷ xs) few = absurd (omega arith)
take_whole (suc n) [] few = refl
take_whole (suc n) (x ∷ xs) few = ap (λ l. x ∷ l) (take_whole n xs (omega arith))

-- the request of a line is that of its front
pub front_asks : (line : List ℕ) → asked_in (line_front line) ≡ asked_in line
front_asks line =
    elim (cases_Bool (ltb 1200 (length line))) [
      | inl long ↦
          let many = ltb-true 1200 (length line) long in
          let len = length-take 1201 line in
          let there : ltb 1200 (length (line_front line)) ≡ true =
          lt-ltb 1200 (length (line_front line)) (omega (arith, len, many)) in
          rw (there, long) refl
      | inr short ↦ ap asked_in (take_whole 1201 line (omega (arith, ltb-false 1200 (length line) short)))
    ]

-- ---- line feeds

none_plain : (text : List ℕ) → ((j : ℕ) → j < length text → is_feed (get_or text j 0) ≡ true → ⊥) → IsLine text
none_plain [] none = refl
none_plain (b ∷ text) none =
    elim (cases_Bool (is_feed b)) [
      | inl pass ↦ absurd (none 0 (omega arith) pass)
      | inr fail ↦ rw (fail, none_plain text (λ j less. none (suc j) (omega arith))) refl
    ]

before_plain : (text : List ℕ) (k : ℕ) → ((j : ℕ) → j < k → is_feed (get_or text j 0) ≡ true → ⊥) → IsLine (take k text)
before_plain text zero before = refl
before_plain [] (suc k) before = refl
before_plain (b ∷ text) (suc k) before =
    elim (cases_Bool (is_feed b)) [
      | inl pass ↦ absurd (before 0 (omega arith) pass)
      | inr fail ↦ rw (fail, before_plain text k (λ j less. before (suc j) (omega arith))) refl
    ]

-- the bytes before the first line feed, and the bytes that are taken with it
pub line_found : (text : List ℕ) (at : ℕ) → IsFirstByte (is_byte 10) text (Some at)
    → IsLine (take at text) × (take (at + 1) text ≡ take at text ++ 10 ∷ [])
line_found text at first = (
  before_plain text at (λ j less is. first.0.before j (omega arith) less is),
  take_more text at 0 first.0.high ∙ ap (λ b. take at text ++ b ∷ []) (eqb-true (get_or text at 0) 10 first.1),
)

pub line_not_found : (text : List ℕ) → IsFirstByte (is_byte 10) text None → IsLine text
line_not_found text none = none_plain text (λ j less is. none j (omega arith) less is)

-- ---- one piece

pub none_shown : (text : Option (List ℕ)) (count : ℕ) → IfSome text (λ xs. count ≡ 0 → xs ≡ []) → count ≡ 0
    → IsAtEnd text
none_shown None count end none = tt
none_shown (Some xs) count end none = end none

module _ (text mid left : Option (List ℕ)) (limit : Option ℕ) (shown front front' : List ℕ)
    (starts : IfSome text (λ xs. StartsWith xs shown)) (end : IfSome text (λ xs. length shown ≡ 0 → xs ≡ []))
    (kept : Keeps text mid) (fits : IfSome text (λ _. IfSome limit (λ k. length shown ≤ k))) where
  pub took_last : (at : ℕ) → IsFirstByte (is_byte 10) shown (Some at) → DropsConsumable mid left limit (at + 1)
      → front' ≡ line_front (front ++ take at shown) → TakesPiece Last text left front front'
  took_last at first drops is =
      let found = line_found shown at first in
      let within : at < length shown = first.0.high in
      let moved = Consumes_shown text mid left limit shown (at + 1) (omega arith) starts end kept fits drops in
      (take at shown, found.0, subst (Consumes text left) found.1 moved.0, is)

  pub took_part : IsFirstByte (is_byte 10) shown None → DropsConsumable mid left limit (length shown)
      → front' ≡ line_front (front ++ shown) → TakesPiece Part text left front front'
  took_part none drops is =
      let moved = Consumes_shown text mid left limit shown (length shown) (omega arith) starts end kept fits drops in (
        shown,
        line_not_found shown none,
        subst (Consumes text left) (take_whole (length shown) shown (omega arith))
            moved.0,
        is,
      )

-- ---- a line that is read so far

-- these bytes of a line were taken, and its front is kept
abbrev pub FrontSoFar : Option (List ℕ) → Option (List ℕ) → List ℕ → Type 0
FrontSoFar text left front = (bytes : List ℕ) × IsLine bytes × Consumes text left bytes × (front ≡ line_front bytes)

pub front_none : (text : Option (List ℕ)) (front : List ℕ) → front ≡ [] → FrontSoFar text text front
front_none text front none = ([], refl, Consumes-nil text, none)

-- an interruption takes nothing
pub front_kept : (text left left' : Option (List ℕ)) (front front' : List ℕ) → FrontSoFar text left front
    → Keeps left left' → front' ≡ front → FrontSoFar text left' front'
front_kept text left left' front front' so_far kept same =
    let (bytes, plain, taken, is) = so_far in
    (bytes, plain, Consumes-kept text left left' bytes taken kept, same ∙ is)

pub front_part : (text left left' : Option (List ℕ)) (front front' : List ℕ) → FrontSoFar text left front
    → TakesPiece Part left left' front front' → FrontSoFar text left' front'
front_part text left left' front front' so_far takes =
    let (bytes, plain, taken, is) = so_far in
    let (more, plain', taken', is') = takes in (
      bytes ++ more,
      has_no_feed-append bytes more plain plain',
      Consumes-trans text left left' bytes more taken taken',
      is' ∙ ap (λ l. line_front (l ++ more)) is ∙ front_more bytes more,
    )

comes_true : (text left : Option (List ℕ)) (line : List ℕ) → IsLine line → Consumes text left (line ++ 10 ∷ [])
    → Comes true text left line
comes_true None left line plain taken = tt
comes_true (Some text) None line plain taken = absurd taken
comes_true (Some text) (Some left) line plain taken = (taken ∙ append_assoc line (10 ∷ []) left, plain)

pub front_last : (text left left' : Option (List ℕ)) (front front' : List ℕ) → FrontSoFar text left front
    → TakesPiece Last left left' front front' → ComesFront true text left' front'
front_last text left left' front front' so_far takes =
    let (bytes, plain, taken, is) = so_far in
    let (more, plain', taken', is') = takes in
    let all = Consumes-trans text left left' bytes (more ++ 10 ∷ []) taken taken' in (
      bytes ++ more,
      comes_true text left' (bytes ++ more) (has_no_feed-append bytes more plain plain')
          (subst (Consumes text left') (sym (append_assoc bytes more (10 ∷ []))) all),
      is' ∙ ap (λ l. line_front (l ++ more)) is ∙ front_more bytes more,
    )

pub front_over : (text left left' : Option (List ℕ)) (front front' : List ℕ) → FrontSoFar text left front
    → TakesPiece Nothing left left' front front' → ComesFront false text left' front'
front_over None left left' front front' so_far takes = tt
front_over (Some text) None left' front front' so_far takes = absurd so_far.2
front_over (Some text) (Some left) left' front front' so_far takes =
    let (bytes, plain, taken, is) = so_far in
    subst IsLine (sym (taken ∙ ap (λ l. bytes ++ l) takes ∙ append-nil bytes)) plain
