-- The result of a command that reads a trace and shows its observations.
use Rattle.std.specs.Prelude.{◌≡◌, ℕ, List, ◌++◌, Option, Some, None, Result, Ok, Err, ◌⊎◌}
use Rattle.std.specs.Io.KnownBytes.{Keeps, Appends}
use Rattle.std.specs.List.{flat_map}
use Rattle.fr_files.specs.Outputs.{AppendsFront}
use Rattle.fr_interface.specs.State.{State, IsNodeInterface}
use Rattle.fr_journal.specs.Forms.{Entry}
use Rattle.fr_slots.specs.Parameters.{Parameters}
use Rattle.fr_trace.specs.Audit.{IsTextOf, IsRefusedBy, HasBegin, StopsAt, StopsAtEnd}
use Rattle.fr_trace.specs.declared.error.TraceError.{TraceError}
use Rattle.fr_trace.specs.declared.error.TraceError.TheVariants.{Read, Write, Memory}
use Rattle.fr_capture.specs.declared.form.Form.{Form}
use Rattle.fr_capture.specs.declared.form.Form.TheVariants.{Capture, Table}
use Rattle.fr_capture.specs.Pcap.{file_header, record_of}
use Rattle.fr_capture.specs.Sightings.{Sighting, sightings_in}
use Rattle.fr_capture.specs.Table.{head_line, line_if_told}

-- ---- both forms

abbrev pub heading : Form → List ℕ
heading (Capture own) = file_header
heading (Table all) = head_line

abbrev pub shown : Form → Parameters → Sighting → List ℕ
shown (Capture own) p s = record_of own s
shown (Table all) p s = line_if_told all p s

-- the text of the first entries of an interface
abbrev pub shown_of : Form → State → List Entry → List ℕ
shown_of form s entries = heading form ++ flat_map (shown form s.params) (sightings_in s entries)

-- the capture of an interface, or its table
abbrev pub text_of : Form → State → List ℕ
text_of form s = shown_of form s s.entries

-- ---- a command

-- the writer failed, and has taken a front of the text; or memory ran out, and nothing is written
abbrev pub IsUnwritten : List ℕ → Option (List ℕ) → Option (List ℕ) → TraceError → Type 0
IsUnwritten text old new e = ((e ≡ Write) × AppendsFront old new text) ⊎ ((e ≡ Memory) × Keeps old new)

-- The text is one of a legal interface, whose output is written, or a front of the output if the writer failed. Or
-- nothing is written: the text is refused by its first line at fault, or memory ran out, or the reader failed.
abbrev pub Shows : (State → List ℕ) → Option (List ℕ) → Option (List ℕ) → Option (List ℕ) → Result (Unit {0}) TraceError
    → Type 0
Shows written text old new (Ok x) = (s : State) × IsTextOf s text × IsNodeInterface s × Appends old new (written s)
Shows written text old new (Err Write) = (s : State) × IsTextOf s text × IsNodeInterface s
    × AppendsFront old new (written s)
Shows written text old new (Err Read) = Keeps old new
Shows written text old new (Err Memory) = HasBegin text × Keeps old new
Shows written text old new (Err e) = IsRefusedBy e text × Keeps old new

-- the text is one of a legal interface
abbrev pub IsAccepted : List ℕ → Type 0
IsAccepted text = (s : State) × IsTextOf s (Some text) × IsNodeInterface s

-- It reads as an audit does. Memory may also run out for the output, once the whole text is accepted.
abbrev pub EndsAt : List ℕ → List ℕ → Result (Unit {0}) TraceError → Type 0
EndsAt text rest (Err Memory) = StopsAt text rest (Err Memory) ⊎ (StopsAtEnd text rest × IsAccepted text)
EndsAt text rest r = StopsAt text rest r

-- the same for a reader whose bytes are known
abbrev pub Ends : Option (List ℕ) → Option (List ℕ) → Result (Unit {0}) TraceError → Type 0
Ends None rest r = Unit {0}
Ends (Some text) None r = ⊥
Ends (Some text) (Some rest) r = EndsAt text rest r
