-- What each command of the program does: the text that it reads, and the text that it prints (project-defined).
use Rattle.std.specs.Prelude.{ℕ, List, Option, Result, Ok, Err}
use Rattle.fr_bench.specs.Audits.{Finds}
use Rattle.fr_bench.specs.declared.command.Source.TheVariants as source
use Rattle.fr_bench.specs.declared.command.Task.{Task}
use Rattle.fr_bench.specs.declared.command.Task.TheVariants as task
use Rattle.fr_bench.specs.declared.command.TextCommand.{TextCommand}
use Rattle.fr_bench.specs.declared.command.TextCommand.TheVariants as command
use Rattle.fr_bench.specs.declared.failure.BenchFailure.{BenchFailure}
use Rattle.fr_bench.specs.declared.failure.BenchFailure.TheVariants as failure
use Rattle.fr_cli.specs.declared.command.Order.{Order}
use Rattle.fr_cli.specs.declared.command.Order.TheVariants as order
use Rattle.fr_commands.specs.Checks.{Checks, Plans}
use Rattle.fr_commands.specs.Midpoints.{Midpoints}
use Rattle.fr_files.specs.declared.error.BenchError.{BenchError}
use Rattle.fr_files.specs.Inputs.{ForText}
use Rattle.fr_trace.specs.declared.error.TraceError.{TraceError}

-- ---- the task of a command

-- `audit` and `midpoint` read standard input, all others the files that they name
abbrev pub task_of : Order → Task
task_of order.Audit = task.Text command.Audit source.Standard
task_of (order.Check file) = task.Text command.Check (source.Named file)
task_of (order.Plan file) = task.Text command.Plan (source.Named file)
task_of order.Midpoint = task.Text command.Midpoint source.Standard
task_of (order.Run cluster scenario cycles free) =
    task.Run cluster scenario (record { cycles = cycles; free = free })

-- ---- commands on one text

-- the result, as that of the program: its failure is that of the command, and no other
abbrev pub EndsAsAudit : (Result (Unit {0}) TraceError → Type 0) → Result (Unit {0}) BenchFailure → Type 0
EndsAsAudit Ends (Ok done) = Ends (Ok done)
EndsAsAudit Ends (Err (failure.Audit e)) = Ends (Err e)
EndsAsAudit Ends (Err e) = ⊥

abbrev pub EndsAsText : (Result (Unit {0}) BenchError → Type 0) → Result (Unit {0}) BenchFailure → Type 0
EndsAsText Ends (Ok done) = Ends (Ok done)
EndsAsText Ends (Err (failure.Text e)) = Ends (Err e)
EndsAsText Ends (Err e) = ⊥

-- The command reads this text, or some text if it isn't known, and what the writer held becomes what it holds then.
abbrev pub Prints : TextCommand → Option (List ℕ) → Option (List ℕ) → Option (List ℕ) → Result (Unit {0}) BenchFailure
    → Type 0
Prints command.Audit text old new result = EndsAsAudit (Finds text old new) result
Prints command.Check text old new result = ForText text (λ bytes. EndsAsText (Checks bytes old new) result)
Prints command.Plan text old new result = ForText text (λ bytes. EndsAsText (Plans bytes old new) result)
Prints command.Midpoint text old new result = ForText text (λ bytes. EndsAsText (Midpoints bytes old new) result)
