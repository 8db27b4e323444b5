-- A line of version 3, cut at its blanks.
use Rattle.std.proofs.Common.{◌≡◌, ℕ, ◌+◌, ◌≤◌, Bool, inl, inr, List, [], ◌∷◌, length, take, drop, Some, None}
use Rattle.std.proofs.Common.{refl, ap, ◌∙◌, arith, ltb}
use Rattle.std.proofs.lemmas.Bool.{cases_Bool, ltb-true, ltb-false}
use Rattle.std.proofs.lemmas.List.Splits.{slice_split_first, slice_split-cons_no}
use Rattle.std.specs.List.{position, position_or_len, slice_split, onto_first}

split_none : (p : ℕ → Bool) (xs : List ℕ) → length xs ≤ position_or_len p xs → slice_split p xs ≡ xs ∷ []
split_none p [] h = refl
split_none p (x ∷ xs) h =
    elim (cases_Bool (p x)) [
      | inl pass ↦
          let none : position_or_len p (x ∷ xs) ≡ 0 = rw pass refl in
          absurd (omega arith)
      | inr fail ↦
          let more : position_or_len p (x ∷ xs) ≡ position_or_len p xs + 1 = rw fail (omega arith) in
          slice_split-cons_no p x xs fail ∙ ap (onto_first x) (split_none p xs (omega arith))
    ]

-- the first byte that passes stands at this place
pub cut_at : (p : ℕ → Bool) (text : List ℕ) (at : ℕ) → position p text ≡ Some at
    → slice_split p text ≡ take at text ∷ slice_split p (drop (at + 1) text)
cut_at p text at found =
    let first = position_or_len p text in
    elim (cases_Bool (ltb first (length text))) [
      | inl pass ↦
          let is : first ≡ at = cc (rw pass at found) in
          rw (← is) (slice_split_first p text 0 (ltb-true first (length text) pass))
      | inr fail ↦ cc (rw fail at found)
    ]

-- no byte passes
pub cut_none : (p : ℕ → Bool) (text : List ℕ) → position p text ≡ None → slice_split p text ≡ text ∷ []
cut_none p text none =
    elim (cases_Bool (ltb (position_or_len p text) (length text))) [
      | inl pass ↦ cc (rw pass at none)
      | inr fail ↦ split_none p text (ltb-false (position_or_len p text) (length text) fail)
    ]
