-- The reading of an input up to a limit of bytes.
use Rattle.std.specs.Prelude.{⊤, ◌≡◌, ◌<◌, ◌≤◌, ℕ, List, length, Option, Some, None, Result, Ok, Err, Vec}
use Rattle.std.specs.declared.alloc.Global.{Global}
use Rattle.fr_files.specs.declared.error.BenchError.{BenchError}
use Rattle.fr_files.specs.declared.error.BenchError.TheVariants as refusal

-- the whole text, or the text is too long; `Read` and `Memory` may come for any text
abbrev pub IsReadUpTo : ℕ → List ℕ → Result (Vec ℕ Global) BenchError → Type 0
IsReadUpTo limit text (Ok bytes) = (bytes.items ≡ text) × (length text ≤ limit)
IsReadUpTo limit text (Err refusal.TooLong) = limit < length text
IsReadUpTo limit text (Err refusal.Read) = ⊤
IsReadUpTo limit text (Err refusal.Memory) = ⊤
IsReadUpTo limit text (Err e) = ⊥

-- This holds of the text that a reader has left. If that isn't known, it holds of some text.
abbrev pub ForText : Option (List ℕ) → (List ℕ → Type 0) → Type 0
ForText (Some text) Holds = Holds text
ForText None Holds = (text : List ℕ) × Holds text
