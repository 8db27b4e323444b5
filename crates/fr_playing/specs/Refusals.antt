-- The errors of a single-threaded run, from those of its files, and the reason why the cluster doesn't accept it
-- (project-defined).
use Rattle.std.specs.Prelude.{⊤, Option, Some, None, Result, Ok, Err}
use Rattle.fr_bus.specs.declared.error.BusError.TheVariants as bus
use Rattle.fr_files.specs.declared.error.BenchError.TheVariants as bench
use Rattle.fr_core.specs.declared.error.StepError.{StepError}
use Rattle.fr_core.specs.declared.error.StepError.TheVariants as step
use Rattle.fr_outcome.specs.declared.file_error.FileError.{FileError}
use Rattle.fr_outcome.specs.declared.file_error.FileError.TheVariants as file
use Rattle.fr_playing.specs.declared.error.PlayError.{PlayError}
use Rattle.fr_playing.specs.declared.error.PlayError.TheVariants as refusal
use Rattle.fr_playing.specs.declared.hindrance.Hindrance.{Hindrance}
use Rattle.fr_playing.specs.declared.hindrance.Hindrance.TheVariants as hindrance
use Rattle.fr_runs.specs.declared.check.RunRefusal.{RunRefusal}

abbrev pub failure_of_file : FileError → PlayError
failure_of_file (file.Text e) = refusal.Text e
failure_of_file (file.Scenario e) = refusal.Scenario e

-- the end of a run in which the world refuses an event
abbrev pub hindrance_of : StepError → Hindrance
hindrance_of (step.Bus bus.Memory) = hindrance.Memory
hindrance_of e = hindrance.Step e

-- the hindrance as an error
abbrev pub error_of_hindrance : Hindrance → PlayError
error_of_hindrance (hindrance.Step e) = refusal.Step e
error_of_hindrance hindrance.Unfinished = refusal.Unfinished
error_of_hindrance hindrance.Memory = refusal.Text bench.Memory

-- the reason why the cluster doesn't accept the run, if the error is such a reason
abbrev pub refusal_of : PlayError → Option RunRefusal
refusal_of (refusal.Text e) = None
refusal_of (refusal.Scenario e) = None
refusal_of (refusal.Run e) = Some e
refusal_of (refusal.Step e) = None
refusal_of refusal.Unfinished = None
refusal_of refusal.UnknownNode = None

abbrev pub refusal_told : {A : Type 0} → Result A PlayError → Option RunRefusal
refusal_told (Ok x) = None
refusal_told (Err e) = refusal_of e

-- an error of a run, and not of its files, except a failed allocation
abbrev pub IsOfRun : PlayError → Type 0
IsOfRun (refusal.Text bench.Memory) = ⊤
IsOfRun (refusal.Text e) = ⊥
IsOfRun (refusal.Scenario e) = ⊥
IsOfRun (refusal.Run e) = ⊤
IsOfRun (refusal.Step e) = ⊤
IsOfRun refusal.Unfinished = ⊤
IsOfRun refusal.UnknownNode = ⊥
