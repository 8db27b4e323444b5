-- The fault lines of a scenario that had no effect in a run (project-defined).
use Rattle.std.specs.Prelude.{ℕ, List}
use Rattle.fr_playing.specs.declared.file.PlayedFile.{PlayedFile}
use Rattle.fr_runs.specs.Effects as effects

-- the lines without effect, of the scenario of an executed run
abbrev pub idle_lines : PlayedFile → List ℕ
idle_lines file = effects.idle_lines file.played.world.bus.sealed file.scenario.faults file.scenario.numbers
