-- The printed text and the exit status of each of the program's failures (project-defined).
use Rattle.std.specs.Prelude.{ℕ, List, codes, ◌++◌}
use Rattle.fr_view.specs.declared.failure.ViewFailure.{ViewFailure}
use Rattle.fr_view.specs.declared.failure.ViewFailure.TheVariants as failure
use Rattle.fr_cli.specs.Commands.{order_error_text, status_of_words}
use Rattle.fr_files.specs.ErrorNames.{bench_error_text}
use Rattle.fr_playing.specs.ErrorNames.{play_error_text}
use Rattle.fr_trace.specs.ErrorNames.{trace_error_text}

abbrev pub status_of : ViewFailure → ℕ
status_of (failure.Words error) = status_of_words error
status_of _ = 1

-- The line on standard error, without its line feed. Every failure but words that are no command is a refusal.
abbrev pub failure_text : ViewFailure → List ℕ
failure_text (failure.Words e) = order_error_text e
failure_text failure.Write = codes "refused Write"
failure_text (failure.Text e) = codes "refused " ++ bench_error_text e
failure_text (failure.Trace e) = codes "refused " ++ trace_error_text e
failure_text (failure.Play e) = codes "refused " ++ play_error_text e
