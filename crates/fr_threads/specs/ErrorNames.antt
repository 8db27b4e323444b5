-- The printed texts of errors (project-defined).
use Rattle.std.specs.Prelude.{ℕ, List, codes, ◌++◌}
use Rattle.std.specs.Fmt.{decimal}
use Rattle.fr_bus.specs.ErrorNames.{bus_error_name}
use Rattle.fr_core.specs.declared.settle.SettleError.{SettleError}
use Rattle.fr_core.specs.declared.settle.SettleError.TheVariants as settle
use Rattle.fr_files.specs.ErrorNames.{bench_error_text}
use Rattle.fr_interface.specs.ErrorNames.{host_error_name, slot_error_name}
use Rattle.fr_scenario.specs.ErrorNames.{scenario_error_text}
use Rattle.fr_threads.specs.declared.error.RunError.{RunError}
use Rattle.fr_threads.specs.declared.error.RunError.TheVariants as run
use Rattle.fr_threads.specs.declared.outcome_error.OutcomeError.{OutcomeError}
use Rattle.fr_threads.specs.declared.outcome_error.OutcomeError.TheVariants as outcome

-- the place of the difference follows the name
abbrev pub settle_error_text : SettleError → List ℕ
settle_error_text (settle.PlanDiffers place) = codes "PlanDiffers " ++ decimal place
settle_error_text (settle.WindowsDiffer node) = codes "WindowsDiffer " ++ decimal node
settle_error_text (settle.OfferDiffers node window) =
    codes "OfferDiffers " ++ decimal node ++ codes " " ++ decimal window
settle_error_text (settle.SeenDiffers node window) =
    codes "SeenDiffers " ++ decimal node ++ codes " " ++ decimal window
settle_error_text (settle.ScriptDiffers node task) =
    codes "ScriptDiffers " ++ decimal node ++ codes " " ++ decimal task
settle_error_text settle.Memory = codes "Memory"

-- the place or the node at fault follows the name, or the name of the error within it
abbrev pub run_error_text : RunError → List ℕ
run_error_text run.BadCycles = codes "BadCycles"
run_error_text (run.BadScript place) = codes "BadScript " ++ decimal place
run_error_text (run.BadFault place) = codes "BadFault " ++ decimal place
run_error_text (run.NoRoom node) = codes "NoRoom " ++ decimal node
run_error_text (run.Host e) = codes "Host " ++ host_error_name e
run_error_text (run.Slot e) = codes "Slot " ++ slot_error_name e
run_error_text (run.Bus e) = codes "Bus " ++ bus_error_name e
run_error_text run.Thread = codes "Thread"
run_error_text (run.Settle e) = codes "Settle " ++ settle_error_text e
run_error_text run.Memory = codes "Memory"

abbrev pub outcome_error_text : OutcomeError → List ℕ
outcome_error_text (outcome.Text e) = bench_error_text e
outcome_error_text (outcome.Scenario e) = scenario_error_text e
outcome_error_text (outcome.Run e) = run_error_text e
