-- The command `midpoint` on a whole text.
use Rattle.std.specs.Prelude.{◌≡◌, ◌<◌, ◌≤◌, ℕ, ◌++◌, List, [], length, ℤ, codes, Option, Some, None, Result, Ok, Err}
use Rattle.std.specs.Io.KnownBytes.{Keeps, Appends}
use Rattle.std.specs.Fmt.{decimal, signed_decimal}
use Rattle.fr_midpoint.specs.declared.ranks.Midpoint.{Midpoint}
use Rattle.fr_midpoint.specs.Midpoint.{IsMidpoint}
use Rattle.fr_midpoint.specs.Refusals.{refusal}
use Rattle.fr_files.specs.declared.error.BenchError.{BenchError}
use Rattle.fr_files.specs.declared.error.BenchError.TheVariants as error
use Rattle.fr_files.specs.Outputs.{FallsShort}
use Rattle.fr_commands.specs.Numbers.{numbers_in, words_in}

-- the line of the midpoint
abbrev pub midpoint_line : Option Midpoint → List ℕ
midpoint_line None = codes "none\n"
midpoint_line (Some m) = signed_decimal m.value ++ codes " " ++ decimal m.low_rank ++ codes " "
    ++ decimal m.high_rank ++ codes "\n"

-- the midpoint of the numbers, or `None` without numbers
abbrev pub IsAnswer : List ℤ → Option Midpoint → Type 0
IsAnswer numbers None = numbers ≡ []
IsAnswer numbers (Some m) = IsMidpoint numbers m

-- a text that isn't too long
abbrev pub IsShort : List ℕ → Type 0
IsShort text = length text ≤ 4096

-- the text spells numbers that have this midpoint
abbrev pub HasMidpoint : List ℕ → Option Midpoint → Type 0
HasMidpoint text answer = IsShort text × (numbers : List ℤ) × (numbers_in (words_in text) ≡ Some numbers)
    × IsAnswer numbers answer

-- After success the line of the midpoint of the text's numbers is written, and after `Write` a front of this line.
-- Every other error leaves the output unchanged: the text is refused by its first fault, or the reader or an allocation
-- failed.
abbrev pub Midpoints : List ℕ → Option (List ℕ) → Option (List ℕ) → Result (Unit {0}) BenchError → Type 0
Midpoints text old new (Ok _) = (answer : Option Midpoint) × HasMidpoint text answer
    × Appends old new (midpoint_line answer)
Midpoints text old new (Err error.TooLong) = (4096 < length text) × Keeps old new
Midpoints text old new (Err error.BadNumber) = IsShort text × (numbers_in (words_in text) ≡ None) × Keeps old new
Midpoints text old new (Err (error.Midpoint e)) =
    IsShort text × (numbers : List ℤ) × (numbers_in (words_in text) ≡ Some numbers) × (refusal numbers ≡ Some e)
    × Keeps old new
Midpoints text old new (Err error.Write) = (answer : Option Midpoint) × HasMidpoint text answer
    × FallsShort old new (midpoint_line answer)
Midpoints text old new (Err error.Read) = Keeps old new
Midpoints text old new (Err error.Memory) = Keeps old new
Midpoints text old new (Err e) = ⊥
