-- A run with the scenario of a text (project-defined).
use Rattle.std.specs.Prelude.{⊤, ◌<◌, ℕ, List, length, Some, None, Result, Ok, Err}
use Rattle.fr_files.specs.declared.error.BenchError.TheVariants as bench
use Rattle.fr_names.specs.Names.{NamesOfNode}
use Rattle.fr_outcome.specs.ScenarioFiles.{IsShort, IsRefused, RunIsRefused}
use Rattle.fr_playing.specs.declared.error.PlayError.{PlayError}
use Rattle.fr_playing.specs.declared.error.PlayError.TheVariants as refusal
use Rattle.fr_playing.specs.declared.file.PlayedFile.{PlayedFile}
use Rattle.fr_playing.specs.Playing.{IsPlayed}
use Rattle.fr_playing.specs.Settled.{IsSettled}
use Rattle.fr_scenario.specs.AnyText.{IsScenarioText}
use Rattle.fr_schedule.specs.Descriptions.{Description}

-- the scenario is the one that the text spells, and the run is a settled one of the cluster with it
abbrev pub IsPlayIn : Description → List NamesOfNode → ℕ → List ℕ → PlayedFile → Type 0
IsPlayIn d names cycles text file =
    IsScenarioText names cycles text file.scenario
    × IsPlayed d file.scenario.scripts file.scenario.faults cycles file.played
    × IsSettled d file.scenario.scripts file.scenario.faults cycles file.played

-- The run with the scenario that the text spells, or the reason why there is none: the text is rejected with this
-- error, or the run with it. Nothing is stated for a failing reader, a failed allocation, or an event that the world
-- refused in a run that the cluster accepts.
abbrev pub IsPlayOf : Description → List NamesOfNode → ℕ → List ℕ → Result PlayedFile PlayError → Type 0
IsPlayOf d names cycles text (Ok file) = RunIsRefused d names cycles text None × IsPlayIn d names cycles text file
IsPlayOf d names cycles text (Err (refusal.Run e)) = RunIsRefused d names cycles text (Some e)
IsPlayOf d names cycles text (Err (refusal.Step e)) = RunIsRefused d names cycles text None
IsPlayOf d names cycles text (Err refusal.Unfinished) = RunIsRefused d names cycles text None
IsPlayOf d names cycles text (Err (refusal.Scenario e)) = IsShort text × IsRefused names cycles text e
IsPlayOf d names cycles text (Err (refusal.Text bench.TooLong)) = 1048576 < length text
IsPlayOf d names cycles text (Err (refusal.Text bench.Read)) = ⊤
IsPlayOf d names cycles text (Err (refusal.Text bench.Memory)) = ⊤
IsPlayOf d names cycles text (Err e) = ⊥
