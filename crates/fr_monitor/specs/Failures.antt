-- The printed text and the exit status of each of the program's failures (project-defined).
use Rattle.std.specs.Prelude.{ℕ, List, codes, ◌++◌}
use Rattle.fr_monitor.specs.declared.failure.MonitorFailure.{MonitorFailure}
use Rattle.fr_monitor.specs.declared.failure.MonitorFailure.TheVariants as failure
use Rattle.fr_cli.specs.Commands.{order_error_text, status_of_words}
use Rattle.fr_files.specs.ErrorNames.{bench_error_text}
use Rattle.fr_monitoring.specs.ErrorNames.{monitor_error_text}

abbrev pub status_of : MonitorFailure → ℕ
status_of (failure.Words error) = status_of_words error
status_of _ = 1

-- The line on standard error, without its line feed. Every failure but words that are no command is a refusal.
abbrev pub failure_text : MonitorFailure → List ℕ
failure_text (failure.Words e) = order_error_text e
failure_text failure.Memory = codes "refused Memory"
failure_text (failure.Text e) = codes "refused " ++ bench_error_text e
failure_text (failure.Recording e) = codes "refused " ++ monitor_error_text e
