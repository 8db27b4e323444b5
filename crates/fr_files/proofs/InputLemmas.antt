-- A read of one byte more than the limit finds whether the whole text was read. What follows for the text of a reader.
use Rattle.std.proofs.Common.{◌≡◌, ℕ, ◌+◌, ◌≤◌, List, length, take, arith, ap, ◌∙◌, inl, inr, min}
use Rattle.std.proofs.Common.{Option, Some, None, IfSome}
use Rattle.std.proofs.lemmas.List.{length-take, take_all}
use Rattle.std.proofs.lemmas.Bool.{cases_lt}
use Rattle.fr_files.specs.Inputs.{ForText}

-- bytes up to the limit are the whole text
pub whole : (limit : ℕ) (text got : List ℕ) → got ≡ take (limit + 1) text → length got ≤ limit
    → (got ≡ text) × (length text ≤ limit)
whole limit text got is few =
    elim (cases_lt limit (length text)) [
      | inl long ↦
          let cut : length got ≡ min (limit + 1) (length text) = ap length is ∙ length-take (limit + 1) text in
          absurd (omega arith)
      | inr short ↦ (is ∙ take_all (limit + 1) text (omega arith), omega arith)
    ]

-- ---- the text of a reader

-- what holds of a known text, and of some text
pub for_text : (known : Option (List ℕ)) (Holds : List ℕ → Type 0) → IfSome known Holds
    → (text : List ℕ) × Holds text → ForText known Holds
for_text None Holds is some = some
for_text (Some text) Holds is some = is

-- what follows for a text, follows for the text of the reader
pub for_text_map : (known : Option (List ℕ)) (Holds Follows : List ℕ → Type 0)
    → ((text : List ℕ) → Holds text → Follows text) → ForText known Holds → ForText known Follows
for_text_map None Holds Follows step (text, is) = (text, step text is)
for_text_map (Some text) Holds Follows step is = step text is
