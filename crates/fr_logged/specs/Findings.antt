-- Findings with a name and two words.
use Rattle.std.specs.Prelude.{ℕ, pos}
use Rattle.fr_logged.specs.declared.finding.Finding.{Finding}
use Rattle.fr_logged.specs.declared.finding.Name.{Name}
use Rattle.fr_logged.specs.declared.finding.Word.{Word}
use Rattle.fr_logged.specs.declared.finding.Word.TheVariants.{Absent, Number}

abbrev pub number_word : ℕ → Word
number_word n = Number (pos n)

abbrev pub bare : Name → Finding
bare name = record { name = name; expected = Absent; found = Absent }

abbrev pub with_numbers : Name → ℕ → ℕ → Finding
with_numbers name expected found =
    record { name = name; expected = number_word expected; found = number_word found }
