-- The printed text of an error (project-defined).
use Rattle.std.specs.Prelude.{ℕ, List, codes, ◌++◌}
use Rattle.std.specs.Fmt.{decimal}
use Rattle.fr_core.specs.ErrorNames.{step_error_text}
use Rattle.fr_files.specs.ErrorNames.{bench_error_text}
use Rattle.fr_playing.specs.declared.error.PlayError.{PlayError}
use Rattle.fr_playing.specs.declared.error.PlayError.TheVariants as play
use Rattle.fr_runs.specs.declared.check.RunRefusal.{RunRefusal}
use Rattle.fr_runs.specs.declared.check.RunRefusal.TheVariants as run
use Rattle.fr_scenario.specs.ErrorNames.{scenario_error_text}

-- the place or the node at fault follows the name
abbrev pub run_refusal_text : RunRefusal → List ℕ
run_refusal_text run.BadCycles = codes "BadCycles"
run_refusal_text (run.BadScript place) = codes "BadScript " ++ decimal place
run_refusal_text (run.BadFault place) = codes "BadFault " ++ decimal place
run_refusal_text (run.NoRoom node) = codes "NoRoom " ++ decimal node

abbrev pub play_error_text : PlayError → List ℕ
play_error_text (play.Text e) = bench_error_text e
play_error_text (play.Scenario e) = scenario_error_text e
play_error_text (play.Run e) = run_refusal_text e
play_error_text (play.Step e) = step_error_text e
play_error_text play.Unfinished = codes "Unfinished"
play_error_text play.UnknownNode = codes "UnknownNode"
