-- The text of a scenario (project-defined).
use Rattle.std.specs.Prelude.{◌≡◌, ℕ, ◌≤◌, ◌+◌, List, ◌++◌, codes, length}
use Rattle.std.specs.List.{flat_map}
use Rattle.fr_lines.specs.Spelling.{line_feed, line_text, end_line}
use Rattle.fr_scenario.specs.Contents.{Contents, contents_of}
use Rattle.fr_scenario.specs.declared.spelled.SpelledLine.{SpelledLine}
use Rattle.fr_scenario.specs.declared.version.Version.{Version}
use Rattle.fr_scenario.specs.declared.version.Version.TheVariants.{One, Two}
use Rattle.fr_scenario.specs.Spelled.{IsSpelledLine}
use Rattle.fr_scenario.specs.Spelling.{line_words}
use Rattle.fr_slots.specs.Plans.{Each}

-- the first line names the version
abbrev pub first_line : Version → List ℕ
first_line One = codes "frscenario 1"
first_line Two = codes "frscenario 2"

abbrev pub spelled_line : SpelledLine → List ℕ
spelled_line line = line_text (line_words line)

-- these lines, and `end` after them
abbrev pub body_text : List SpelledLine → List ℕ
body_text lines = flat_map spelled_line lines ++ (end_line ++ line_feed)

-- the one text of these lines in a version
abbrev pub scenario_text : Version → List SpelledLine → List ℕ
scenario_text version lines = (first_line version ++ line_feed) ++ body_text lines

-- the largest number of lines of a text, the first one and `end` included
abbrev pub most_lines : ℕ
most_lines = 4096

-- The text is that of some lines of its version, which have these scripts and fault lines. Other texts may have the
-- same contents: only the order of the lines of each task, and that of the fault lines, matters.
pub record IsOldText (text : List ℕ) (s : Contents) : Type 0 where
  pub version : Version
  pub lines : List SpelledLine
  pub spelled : text ≡ scenario_text version lines
  pub fit : Each (IsSpelledLine version) lines
  pub few : length lines + 2 ≤ most_lines
  pub contents_are : s ≡ contents_of lines
