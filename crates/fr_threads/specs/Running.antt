-- The result of a run in threads (project-defined).
use Rattle.std.specs.Prelude.{◌≡◌, ℕ, Bool, true, List, length, map, Option, Some, None, Result, Ok, Err}
use Rattle.std.specs.Prelude.{option_map, slice_get}
use Rattle.std.specs.Option.{option_and_then}
use Rattle.std.specs.Global.{Vec}
use Rattle.fr_bus.specs.declared.error.Phase.TheVariants.{Finished}
use Rattle.fr_bus.specs.States.{IsRun, OneSenderEach}
use Rattle.fr_bus.specs.Windows.{cycles_begun}
use Rattle.fr_interface.specs.Commits.{commits_of}
use Rattle.fr_core.specs.declared.event.Reply.{Reply}
use Rattle.fr_core.specs.Accounts.{IsHarmless}
use Rattle.fr_core.specs.Receivers.{Receivers}
use Rattle.fr_core.specs.Answers.{AreAnswered}
use Rattle.fr_core.specs.Scripts.{Scripted}
use Rattle.fr_core.specs.Settling.{Agrees}
use Rattle.fr_runs.specs.declared.check.RunRefusal.{RunRefusal}
use Rattle.fr_runs.specs.declared.check.RunRefusal.TheVariants as refusal
use Rattle.fr_runs.specs.declared.fault_line.FaultLine.{FaultLine}
use Rattle.fr_runs.specs.Faulted.{HaveFaults}
use Rattle.fr_runs.specs.Refusing.{Refuses}
use Rattle.fr_runs.specs.Stepping.{AreStepped}
use Rattle.fr_schedule.specs.Descriptions.{Description}
use Rattle.fr_threads.specs.declared.error.RunError.{RunError}
use Rattle.fr_threads.specs.declared.error.RunError.TheVariants.{BadCycles, BadScript, BadFault, NoRoom, Host, Slot}
use Rattle.fr_threads.specs.declared.error.RunError.TheVariants.{Bus, Thread, Settle, Memory}
use Rattle.fr_threads.specs.declared.run.Run.{Run}

-- ---- answers

-- the answers that a task of a node got, from those of all tasks of all nodes
abbrev pub replies_at : List (Vec (Vec Reply)) → ℕ → ℕ → Option (List Reply)
replies_at answers node task =
    option_map (λ (replies : Vec Reply). replies.items)
    (option_and_then (λ (tasks : Vec (Vec Reply)). slice_get tasks.items task) (slice_get answers node))

-- ---- refusals

-- the reason why the cluster doesn't accept the run, if the error is such a reason
abbrev pub refusal_of : RunError → Option RunRefusal
refusal_of BadCycles = Some refusal.BadCycles
refusal_of (BadScript place) = Some (refusal.BadScript place)
refusal_of (BadFault place) = Some (refusal.BadFault place)
refusal_of (NoRoom node) = Some (refusal.NoRoom node)
refusal_of (Host e) = None
refusal_of (Slot e) = None
refusal_of (Bus e) = None
refusal_of Thread = None
refusal_of (Settle e) = None
refusal_of Memory = None

abbrev pub refusal_told : Result Run RunError → Option RunRefusal
refusal_told (Ok run) = None
refusal_told (Err e) = refusal_of e

-- The run is refused exactly if the cluster doesn't accept it, and with that reason.
abbrev pub RefusesRun : Description → List Scripted → List FaultLine → ℕ → Result Run RunError → Type 0
RefusesRun d scripts faults cycles answer = Refuses d scripts faults cycles (refusal_told answer)

-- ---- a run

-- These are the results of a run of the cluster with these scripts, these fault lines and this number of cycles, in
-- lockstep or free-running.
pub record IsRunOf (d : Description) (given : List Scripted) (lines : List FaultLine) (cycles : ℕ) (is_stepped : Bool)
    (run : Run) : Type 0 where
  -- the interfaces are those of the cluster's nodes, and their journals and the scripts agree with the record
  pub agrees : Agrees d run.interfaces.items run.bus.sealed run.scripts.items
  -- all windows of the record were cross-checked
  pub windows : run.settled.windows ≡ length run.bus.sealed
  -- a frame that a receiver holds from a fault-free slot was committed by the slot's owner
  pub receivers : Receivers d run.interfaces.items run.bus.sealed
  -- no static slot of a guarded channel carried two senders
  pub one_sender : OneSenderEach d run.bus.sealed
  -- the bus was made for the cluster, and its windows are those of a run of the cluster
  pub cluster : run.bus.cluster ≡ d
  pub run_is : IsRun run.bus
  -- in a guarded static slot each node's observation follows from its owner's account, whatever other nodes send
  pub harmless : IsHarmless d run.interfaces.items run.bus.sealed
  -- the shares of each node's tasks count the commits of its interface
  pub commits : run.commits.items ≡ map commits_of run.interfaces.items
  -- the bus came to its end
  pub finished : run.bus.phase ≡ Finished
  -- the record has this number of windows of static slot 1
  pub cycles_done : cycles_begun run.bus.sealed ≡ cycles
  -- the scripts are the given ones, and every line has an answer
  pub scripts : AreAnswered given run.scripts.items
  -- each window of the record has the faults of the lines that take effect there, and no others
  pub faults : HaveFaults lines run.bus.sealed
  -- in a lockstep run, each line of the scripts was executed in its cycle, before its first window and after all
  -- earlier windows
  pub stepped : is_stepped ≡ true → AreStepped run.bus.sealed given run.interfaces.items
