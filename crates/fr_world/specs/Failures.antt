-- The printed text and the exit status of each of the program's failures (project-defined).
use Rattle.std.specs.Prelude.{ℕ, List, codes, ◌++◌}
use Rattle.std.specs.Fmt.{decimal}
use Rattle.fr_world.specs.declared.failure.WorldFailure.{WorldFailure}
use Rattle.fr_world.specs.declared.failure.WorldFailure.TheVariants as failure
use Rattle.fr_cli.specs.Commands.{order_error_text, status_of_words}
use Rattle.fr_bus.specs.ErrorNames.{bus_error_name}
use Rattle.fr_endless.specs.declared.taps.Tap.TheVariants.{Record, Capture, Trace}
use Rattle.fr_files.specs.ErrorNames.{bench_error_text}
use Rattle.fr_session.specs.ErrorNames.{session_error_name}

abbrev pub status_of : WorldFailure → ℕ
status_of (failure.Words error) = status_of_words error
status_of _ = 1

-- The line on standard error, without its line feed. Every failure but words that are no command is a refusal.
abbrev pub failure_text : WorldFailure → List ℕ
failure_text (failure.Words e) = order_error_text e
failure_text failure.Memory = codes "refused Memory"
failure_text (failure.Text e) = codes "refused " ++ bench_error_text e
failure_text (failure.Room n) = codes "refused NoRoom " ++ decimal n
failure_text (failure.World e) = codes "refused " ++ bus_error_name e
failure_text (failure.Session e) = codes "refused " ++ session_error_name e
failure_text (failure.Tap Record) = codes "refused Record"
failure_text (failure.Tap Capture) = codes "refused Capture"
failure_text (failure.Tap (Trace n)) = codes "refused Trace " ++ decimal n
failure_text (failure.SameFile Record) = codes "refused SameFile Record"
failure_text (failure.SameFile Capture) = codes "refused SameFile Capture"
failure_text (failure.SameFile (Trace n)) = codes "refused SameFile Trace " ++ decimal n
