-- The scenario of a whole scenario file, and the cluster's acceptance of a run with it (project-defined).
use Rattle.std.specs.Prelude.{⊤, ◌≡◌, ◌<◌, ◌≤◌, ◌⊎◌, ℕ, List, length, Option, Some, Result, Ok, Err}
use Rattle.std.specs.Str.{IsUtf8}
use Rattle.fr_files.specs.declared.error.BenchError.TheVariants as bench
use Rattle.fr_outcome.specs.declared.file_error.FileError.{FileError}
use Rattle.fr_outcome.specs.declared.file_error.FileError.TheVariants as refusal
use Rattle.fr_names.specs.Names.{NamesOfNode}
use Rattle.fr_runs.specs.declared.check.RunRefusal.{RunRefusal}
use Rattle.fr_runs.specs.Refusing.{Refuses}
use Rattle.fr_scenario.specs.Contents.{Contents}
use Rattle.fr_scenario.specs.declared.error.ScenarioError.{ScenarioError}
use Rattle.fr_scenario.specs.declared.error.ScenarioError.TheVariants as scenario
use Rattle.fr_scenario.specs.Reading.{first_fault}
use Rattle.fr_scenario.specs.AnyText.{IsScenarioText}
use Rattle.fr_schedule.specs.Descriptions.{Description}

-- a text that isn't too long
abbrev pub IsShort : List ℕ → Type 0
IsShort text = length text ≤ 1048576

-- In a cluster with these names and a run of so many cycles, the text is rejected with this error: its first fault, or
-- `BadMagic` if it isn't UTF-8; or memory ran out.
abbrev pub IsRefused : List NamesOfNode → ℕ → List ℕ → ScenarioError → Type 0
IsRefused names cycles text e =
    (e ≡ scenario.Memory)
    ⊎ ((IsUtf8 text × (first_fault names cycles text ≡ Some e)) ⊎ ((IsUtf8 text → ⊥) × (e ≡ scenario.BadMagic)))

-- the scenario that the bytes spell, or their first fault
abbrev pub IsScenarioIn : List NamesOfNode → ℕ → List ℕ → Result Contents FileError → Type 0
IsScenarioIn names cycles text (Ok contents) = IsScenarioText names cycles text contents
IsScenarioIn names cycles text (Err (refusal.Scenario e)) = IsRefused names cycles text e
IsScenarioIn names cycles text (Err (refusal.Text e)) = ⊥

-- The scenario that the text spells, or its first fault. Nothing is stated for a failing reader or a failed allocation.
abbrev pub IsScenarioOf : List NamesOfNode → ℕ → List ℕ → Result Contents FileError → Type 0
IsScenarioOf names cycles text (Ok contents) = IsShort text × IsScenarioText names cycles text contents
IsScenarioOf names cycles text (Err (refusal.Scenario e)) = IsShort text × IsRefused names cycles text e
IsScenarioOf names cycles text (Err (refusal.Text bench.TooLong)) = 1048576 < length text
IsScenarioOf names cycles text (Err (refusal.Text bench.Read)) = ⊤
IsScenarioOf names cycles text (Err (refusal.Text bench.Memory)) = ⊤
IsScenarioOf names cycles text (Err (refusal.Text e)) = ⊥

-- ---- a run with it

-- the text is that of a scenario, and the cluster rejects a run with it with this error, or accepts it
abbrev pub RunIsRefused : Description → List NamesOfNode → ℕ → List ℕ → Option RunRefusal → Type 0
RunIsRefused d names cycles text refused =
    IsShort text
    × ((contents : Contents) × IsScenarioText names cycles text contents
    × Refuses d contents.scripts contents.faults cycles refused)
