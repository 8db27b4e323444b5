-- The state of a text after each byte. A text of version 4 has the phases of version 3, since all lines but the first
-- and `node` are read as in version 3; only the plan may give more room. A text of versions 1 to 3 is read as
-- `fr_trace` reads it. A `Bool` tells them apart: true for version 4.
use Rattle.std.specs.Prelude.{◌≡◌, ℕ, ◌==◌, Bool, true, false, List, ◌∷◌, ◌++◌, Option, Result, Ok, Err, if◌then◌else◌}
use Rattle.std.specs.List.{fold}
use Rattle.std.specs.Str.{bytes_eq}
use Rattle.fr_auditing.specs.LongReading.{long_node_in}
use Rattle.fr_auditing.specs.LongText.{long_first_line}
use Rattle.fr_lines.specs.declared.versions.Version.TheVariants.{Three}
use Rattle.fr_lines.specs.Reading.{version_in, node_in}
use Rattle.fr_slots.specs.Plans.{Plan}
use Rattle.fr_text.specs.Spaces.{words_of}
use Rattle.fr_trace.specs.declared.error.TraceError.{TraceError}
use Rattle.fr_trace.specs.declared.error.TraceError.TheVariants.{BadMagic}
use Rattle.fr_trace.specs.Feeds.{IsAtBegin}
use Rattle.fr_trace.specs.Stream.{Phase, Progress, magic, params, node, reading, failed, after_magic, after_node}
use Rattle.fr_trace.specs.Stream.{take_line, after_line, take_byte}

-- ---- the lines that differ

abbrev pub first_by : Bool → List ℕ → Result Phase TraceError
first_by true line = if bytes_eq line long_first_line then Ok (params Three) else Err BadMagic
first_by false line = after_magic (version_in line)

abbrev pub node_by : Bool → List (List ℕ) → Option Plan
node_by true words = long_node_in words
node_by false words = node_in words

-- ---- any text

-- the phase after a whole line
abbrev pub line_by : Bool → Phase → List ℕ → Result Phase TraceError
line_by later magic line = first_by later line
line_by later (node v p) line = after_node v p (node_by later (words_of line))
line_by later p line = take_line p line

-- a line is examined when its line feed comes; any other byte is taken as in version 3
abbrev pub byte_by : Bool → Progress → ℕ → Progress
byte_by later (failed e) b = failed e
byte_by later (reading p line) b = if b == 10 then after_line (line_by later p line) else take_byte (reading p line) b

-- the state once these bytes have come too
abbrev pub bytes_by : Bool → Progress → List ℕ → Progress
bytes_by later s bytes = fold (byte_by later) s bytes

-- the line feed of the `begin` of a plan without fault is among these bytes
abbrev pub BeginsBy : Bool → Progress → List ℕ → Type 0
BeginsBy later old bytes = (front : List ℕ) × (rest : List ℕ) × (bytes ≡ front ++ 10 ∷ rest)
    × IsAtBegin (bytes_by later old front)

-- ---- a text of version 4

abbrev pub long_line : Phase → List ℕ → Result Phase TraceError
long_line p line = line_by true p line

abbrev pub long_byte : Progress → ℕ → Progress
long_byte s b = byte_by true s b

abbrev pub long_bytes : Progress → List ℕ → Progress
long_bytes s bytes = bytes_by true s bytes

abbrev pub LongBegins : Progress → List ℕ → Type 0
LongBegins old bytes = BeginsBy true old bytes
