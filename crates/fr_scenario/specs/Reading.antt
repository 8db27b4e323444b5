-- The scenario that a text spells, or its first line at fault.
use Rattle.std.specs.Prelude.{ℕ, ◌+◌, nat_lt, Bool, true, false, List, [], ◌∷◌, ◌++◌, length, take, drop, codes}
use Rattle.std.specs.Prelude.{Option, Some, None, Result, Ok, Err, if◌then◌else◌}
use Rattle.std.specs.List.{slice_split}
use Rattle.std.specs.Result.{result_err}
use Rattle.std.specs.Str.{bytes_eq}
use Rattle.fr_lines.specs.Spelling.{end_line, line_feed}
use Rattle.fr_names.specs.Names.{NamesOfNode}
use Rattle.fr_scenario.specs.Contents.{Contents, contents_of}
use Rattle.fr_scenario.specs.declared.error.ScenarioError.{ScenarioError}
use Rattle.fr_scenario.specs.declared.error.ScenarioError.TheVariants.{BadMagic, BadLine, TooManyLines, Truncated}
use Rattle.fr_scenario.specs.declared.spelled.SpelledLine.{SpelledLine}
use Rattle.fr_scenario.specs.declared.statement.Statement.{Statement}
use Rattle.fr_scenario.specs.declared.version.Version.{Version}
use Rattle.fr_scenario.specs.declared.version.Version.TheVariants.{One, Two}
use Rattle.fr_scenario.specs.LineReading.{line_in}
use Rattle.fr_scenario.specs.Lists.{line_statements}
use Rattle.fr_scenario.specs.RunContents.{with_run_contents}
use Rattle.fr_scenario.specs.ScenarioText.{first_line, most_lines}
use Rattle.fr_scenario.specs.Statements.{is_last}
use Rattle.fr_text.specs.Plain.{is_feed}
use Rattle.fr_text.specs.Spaces.{words_of}

-- The text, cut at each line feed: its whole lines, and last the bytes after its last line feed, perhaps none.
abbrev pub lines_in : List ℕ → List (List ℕ)
lines_in text = slice_split is_feed text

-- the values of some lines, or the first line at fault with its error
abbrev pub ReadOf : Type 0 → Type 0
ReadOf V = Result (List V) ScenarioError

abbrev pub longest_line : ℕ
longest_line = 1200

-- the line feed of the next line, of number n counted from 1, is there, and the line isn't too long
abbrev pub next_line : ℕ → List (List ℕ) → Result (List ℕ) ScenarioError
next_line n [] = Err Truncated
next_line n (line ∷ []) = if nat_lt longest_line (length line) then Err (BadLine n) else Err Truncated
next_line n (line ∷ next ∷ rest) = if nat_lt longest_line (length line) then Err (BadLine n) else Ok line

-- no line is left, and no byte stands after the last line feed
abbrev pub is_at_end : List (List ℕ) → Bool
is_at_end [] = true
is_at_end ([] ∷ []) = true
is_at_end lines = false

-- ---- the lines of a version, by the test of its last line and the value of every other line

-- the bytes after the last line feed, if no line before it is the last one
abbrev pub unfinished : {V : Type 0} → ℕ → List ℕ → ReadOf V
unfinished n [] = Err Truncated
unfinished n (b ∷ line) =
    if nat_lt most_lines n then Err TooManyLines
    else if nat_lt longest_line (length (b ∷ line)) then Err (BadLine n)
    else Err Truncated

-- no byte may stand after the last line
abbrev pub after_end : {V : Type 0} → ℕ → List (List ℕ) → ReadOf V
after_end n more = if is_at_end more then Ok [] else Err (BadLine n)

abbrev pub put_before : {V : Type 0} → V → ReadOf V → ReadOf V
put_before line (Ok lines) = Ok (line ∷ lines)
put_before line (Err e) = Err e

-- a line other than the last, with the lines after it
abbrev pub said : {V : Type 0} → ℕ → Option V → ReadOf V → ReadOf V
said n None after = Err (BadLine n)
said n (Some line) after = put_before line after

-- a whole line of at most 1200 bytes, with the lines after it and their values
abbrev pub whole_line : {V : Type 0} → (List ℕ → Bool) → (List ℕ → Option V) → ℕ → List ℕ → List (List ℕ) → ReadOf V
    → ReadOf V
whole_line is_last value n line more after = if is_last line then after_end (n + 1) more else said n (value line) after

abbrev pub line_from : {V : Type 0} → (List ℕ → Bool) → (List ℕ → Option V) → ℕ → List ℕ → List (List ℕ) → ReadOf V
    → ReadOf V
line_from is_last value n line [] after = unfinished n line
line_from is_last value n line (next ∷ rest) after =
    if nat_lt most_lines n then Err TooManyLines
    else if nat_lt longest_line (length line) then Err (BadLine n)
    else whole_line is_last value n line (next ∷ rest) after

-- all lines, of which the first has number n
abbrev pub read_from : {V : Type 0} → (List ℕ → Bool) → (List ℕ → Option V) → ℕ → List (List ℕ) → ReadOf V
read_from is_last value n [] = Err Truncated
read_from is_last value n (line ∷ more) = line_from is_last value n line more (read_from is_last value (n + 1) more)

-- ---- versions 1 and 2

abbrev pub Read : Type 0
Read = ReadOf SpelledLine

abbrev pub is_end_line : List ℕ → Bool
is_end_line line = bytes_eq line end_line

abbrev pub told_line : Version → List ℕ → Option SpelledLine
told_line version line = line_in version (words_of line)

abbrev pub told_from : Version → ℕ → List (List ℕ) → Read
told_from version n lines = read_from is_end_line (told_line version) n lines

-- the version that the first line names
abbrev pub version_in : List ℕ → Option Version
version_in line = if bytes_eq line (first_line One) then Some One else if bytes_eq line (first_line Two) then Some Two
    else None

abbrev pub read_after : Option Version → List (List ℕ) → Read
read_after None lines = Err BadMagic
read_after (Some version) lines = told_from version 2 lines

abbrev pub read_lines : List (List ℕ) → Read
read_lines [] = Err BadMagic
read_lines (first ∷ []) = Err BadMagic
read_lines (first ∷ next ∷ rest) = read_after (version_in first) (next ∷ rest)

-- ---- the text of version 1 or 2

abbrev pub read_text : List ℕ → Read
read_text text = read_lines (lines_in text)

abbrev pub with_contents : Read → Result Contents ScenarioError
with_contents (Ok lines) = Ok (contents_of lines)
with_contents (Err e) = Err e

abbrev pub old_scenario_in : List ℕ → Result Contents ScenarioError
old_scenario_in text = with_contents (read_text text)

-- ---- the text of version 3

abbrev pub first_of_new : List ℕ
first_of_new = codes "frscenario 3" ++ line_feed

abbrev pub is_new : List ℕ → Bool
is_new text = bytes_eq (take 13 text) first_of_new

-- the statements of each line after the first one
abbrev pub statements_in : List NamesOfNode → List ℕ → ReadOf (List Statement)
statements_in names text = read_from is_last (line_statements names) 2 (lines_in text)

-- the first line is that of version 3
abbrev pub new_scenario_in : List NamesOfNode → ℕ → List ℕ → Result Contents ScenarioError
new_scenario_in names cycles text = with_run_contents cycles (statements_in names (drop 13 text))

-- ---- the text of any version

-- the scenario that the text spells in a cluster with these names and a run of so many cycles, or its first fault
abbrev pub scenario_in : List NamesOfNode → ℕ → List ℕ → Result Contents ScenarioError
scenario_in names cycles text =
    if is_new text then new_scenario_in names cycles text else old_scenario_in text

-- the first fault of the text, if it has one
abbrev pub first_fault : List NamesOfNode → ℕ → List ℕ → Option ScenarioError
first_fault names cycles text = result_err (scenario_in names cycles text)
