-- The call of a task that words spell: its kind, and the words after the places of scenarios and sessions.
use Rattle.std.specs.Prelude.{ℕ, List, [], ◌∷◌, codes, Option, Some, None, if◌then◌else◌}
use Rattle.std.specs.Str.{bytes_eq}
use Rattle.fr_interface.specs.declared.call.Call.{Call}
use Rattle.fr_interface.specs.declared.call.Call.TheVariants.{Commit, Withdraw, Read, Pop}
use Rattle.fr_lines.specs.PartReading.{payload_in}
use Rattle.fr_text.specs.Reading.{◌>>=◌, number_in}

unfoldable pub commit_in : List (List ℕ) → Option Call
commit_in (buffer ∷ payload ∷ []) = do
  b ← number_in 64 buffer
  p ← payload_in payload
  Some (Commit b p)
commit_in words = None

unfoldable pub withdraw_in : List (List ℕ) → Option Call
withdraw_in (buffer ∷ []) = do
  b ← number_in 64 buffer
  Some (Withdraw b)
withdraw_in words = None

unfoldable pub read_in : List (List ℕ) → Option Call
read_in (buffer ∷ []) = do
  b ← number_in 64 buffer
  Some (Read b)
read_in words = None

unfoldable pub pop_in : List (List ℕ) → Option Call
pop_in [] = Some Pop
pop_in (word ∷ words) = None

-- by its kind
unfoldable pub call_in : List ℕ → List (List ℕ) → Option Call
call_in kind words =
    if bytes_eq kind (codes "commit") then commit_in words
    else if bytes_eq kind (codes "withdraw") then withdraw_in words
    else if bytes_eq kind (codes "read") then read_in words
    else if bytes_eq kind (codes "pop") then pop_in words
    else None
