-- The text of a scenario of any version (project-defined).
use Rattle.std.specs.Prelude.{◌≡◌, ◌⊎◌, ℕ, true, List, Ok}
use Rattle.fr_names.specs.Names.{NamesOfNode}
use Rattle.fr_scenario.specs.Contents.{Contents}
use Rattle.fr_scenario.specs.Reading.{is_new, new_scenario_in}
use Rattle.fr_scenario.specs.ScenarioText.{IsOldText}

-- The text of version 3 has these contents in a cluster with these names and a run of so many cycles. A value has many
-- spellings: blanks, comments, empty lines and names, and lines in many orders.
pub record IsNewText (names : List NamesOfNode) (cycles : ℕ) (text : List ℕ) (s : Contents) : Type 0 where
  pub version : is_new text ≡ true
  pub read : new_scenario_in names cycles text ≡ Ok s

-- the text of version 1 or 2, or that of version 3
abbrev pub IsScenarioText : List NamesOfNode → ℕ → List ℕ → Contents → Type 0
IsScenarioText names cycles text s = IsOldText text s ⊎ IsNewText names cycles text s
