-- The finding of a frame in its slot, by what is due there (project-defined).
use Rattle.std.specs.Prelude.{ℕ, ◌/◌, ◌==◌, nat_lt, ◌&&◌, ◌||◌, not, Bool, true, false, length, Option, Some, None}
use Rattle.std.specs.Prelude.{if◌then◌else◌}
use Rattle.std.specs.List.{list_all}
use Rattle.fr_frame.specs.Fields.{Fields}
use Rattle.fr_logged.specs.Findings.{bare, with_numbers, number_word}
use Rattle.fr_logged.specs.declared.due.Due.{Due}
use Rattle.fr_logged.specs.declared.finding.Finding.{Finding}
use Rattle.fr_logged.specs.declared.finding.Letters.{Letters}
use Rattle.fr_logged.specs.declared.finding.Name.{Name}
use Rattle.fr_logged.specs.declared.finding.Name.TheVariants as name
use Rattle.fr_logged.specs.declared.finding.Word.TheVariants.{Absent, Letters as InLetters}

abbrev pub same : Bool → Bool → Bool
same true b = b
same false b = not b

abbrev pub letters_of : Fields → Letters
letters_of f = record { preamble = f.preamble; has_data = f.has_data; sync = f.sync; startup = f.startup }

-- expected letters beside those that were found
abbrev pub unlike : Name → Letters → Letters → Finding
unlike name expected found = record { name = name; expected = InLetters expected; found = InLetters found }

-- sync or startup differ
abbrev pub bits_finding : Bool → Bool → Fields → Finding
bits_finding sync startup f =
    unlike name.Bits (record { preamble = f.preamble; has_data = f.has_data; sync = sync; startup = startup })
    (letters_of f)

abbrev pub preamble_finding : Bool → Fields → Option Finding
preamble_finding preamble f =
    if same preamble f.preamble then None
    else Some (unlike name.Preamble (record {
      preamble = preamble;
      has_data = f.has_data;
      sync = f.sync;
      startup = f.startup;
    }) (letters_of f))

abbrev pub is_zero : ℕ → Bool
is_zero b = b == 0

-- a null frame has no preamble and a payload of zeros
abbrev pub null_finding : Fields → Option Finding
null_finding f = if not f.preamble && list_all is_zero f.payload then None else Some (bare name.NullFrame)

abbrev pub buffer_finding : ℕ → Option Bool → Fields → Option Finding
buffer_finding node None f = Some (record { name = name.NoBuffer; expected = number_word node; found = Absent })
buffer_finding node (Some preamble) f = preamble_finding preamble f

-- by its kind: a data frame or a null frame
abbrev pub kind_finding : Due → Fields → Option Finding
kind_finding d f = if f.has_data then buffer_finding d.node d.preamble f else null_finding f

abbrev pub static_rules : Due → Fields → Option Finding
static_rules d f =
    if not (length f.payload / 2 == d.words) then Some (with_numbers name.Words d.words (length f.payload / 2))
    else if not (same d.sync f.sync && same d.startup f.startup) then Some (bits_finding d.sync d.startup f)
    else kind_finding d f

abbrev pub static_finding : Option Due → Fields → Option Finding
static_finding None f = Some (bare name.Nobody)
static_finding (Some d) f = static_rules d f

abbrev pub words_finding : Due → Fields → Option Finding
words_finding d f =
    if length f.payload / 2 == d.words then buffer_finding d.node d.preamble f
    else Some (with_numbers name.Words d.words (length f.payload / 2))

abbrev pub dynamic_rules : Due → Fields → Option Finding
dynamic_rules d f =
    if not f.has_data then Some (bare name.NullFrame)
    else if f.sync || f.startup then Some (bits_finding false false f)
    else words_finding d f

abbrev pub dynamic_finding : Option Due → Fields → Option Finding
dynamic_finding None f = Some (bare name.Nobody)
dynamic_finding (Some d) f = dynamic_rules d f

-- The slot opens at this minislot, after the last one of the segment, or after the sender's latest one.
abbrev pub minislot_finding : ℕ → ℕ → ℕ → Option Finding
minislot_finding minislots latest opens =
    if nat_lt minislots opens then Some (with_numbers name.Closed minislots opens)
    else if nat_lt latest opens then Some (with_numbers name.Late latest opens)
    else None
