-- The failure of a run that is reported, and its error (project-defined).
use Rattle.std.specs.Prelude.{◌≡◌, ℕ, nat_lt, List, Option, Some, None, Result, Ok, Err, if◌then◌else◌}
use Rattle.std.specs.List.{fold}
use Rattle.fr_bus.specs.declared.error.BusError.{BusError}
use Rattle.fr_bus.specs.declared.error.BusError.TheVariants as bus
use Rattle.fr_core.specs.declared.settle.SettleError.{SettleError}
use Rattle.fr_core.specs.declared.settle.SettleError.TheVariants as settle
use Rattle.fr_desks.specs.declared.wire.WireError.{WireError}
use Rattle.fr_desks.specs.declared.wire.WireError.TheVariants as wire
use Rattle.fr_threads.specs.declared.error.RunError.{RunError}
use Rattle.fr_threads.specs.declared.error.RunError.TheVariants as told
use Rattle.fr_threads.specs.declared.failure.RunFailure.{RunFailure}
use Rattle.fr_threads.specs.declared.failure.RunFailure.TheVariants.{Host, Slot, Bus, Thread, Settle, Memory, Stopped}
use Rattle.fr_threads.specs.declared.run.Run.{Run}

-- ---- one of several failures

abbrev pub rank : RunFailure → ℕ
rank (Host e) = 0
rank (Slot e) = 1
rank (Bus e) = 2
rank Thread = 3
rank (Settle e) = 4
rank Memory = 5
rank Stopped = 6

-- the failure of the lesser rank; of two failures of one rank, the earlier
abbrev pub least_of : Option RunFailure → RunFailure → RunFailure
least_of None failure = failure
least_of (Some earlier) failure = if nat_lt (rank failure) (rank earlier) then failure else earlier

abbrev pub told_after : Option RunFailure → Option RunFailure → Option RunFailure
told_after earlier None = earlier
told_after earlier (Some failure) = Some (least_of earlier failure)

-- the first failure of the least rank
abbrev pub told_of_all : List (Option RunFailure) → Option RunFailure
told_of_all failures = fold told_after None failures

-- ---- the error of a failure

-- a failed allocation is one failure, wherever it occurred
abbrev pub failure_of_bus : BusError → RunFailure
failure_of_bus bus.Memory = Memory
failure_of_bus e = Bus e

abbrev pub failure_of_wire : WireError → RunFailure
failure_of_wire (wire.Bus e) = failure_of_bus e
failure_of_wire wire.Stopped = Stopped

abbrev pub failure_of_settling : SettleError → RunFailure
failure_of_settling settle.Memory = Memory
failure_of_settling e = Settle e

abbrev pub error_of_bus : BusError → RunError
error_of_bus bus.Memory = told.Memory
error_of_bus e = told.Bus e

abbrev pub error_of_settling : SettleError → RunError
error_of_settling settle.Memory = told.Memory
error_of_settling e = told.Settle e

-- a run in which every thread was stopped has no failed thread, and didn't come to its end
abbrev pub error_of : RunFailure → RunError
error_of (Host e) = told.Host e
error_of (Slot e) = told.Slot e
error_of (Bus e) = error_of_bus e
error_of Thread = told.Thread
error_of (Settle e) = error_of_settling e
error_of Memory = told.Memory
error_of Stopped = told.Thread

-- a failed allocation isn't reported as a refusal of the bus or of the cross-check
abbrev pub IsMemoryTold : RunError → Type 0
IsMemoryTold (told.Bus e) = ¬ (e ≡ bus.Memory)
IsMemoryTold (told.Settle e) = ¬ (e ≡ settle.Memory)
IsMemoryTold e = Unit {0}

abbrev pub TellsMemory : Result Run RunError → Type 0
TellsMemory (Ok run) = Unit {0}
TellsMemory (Err e) = IsMemoryTold e
