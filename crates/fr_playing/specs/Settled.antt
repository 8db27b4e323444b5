-- A settled run: the properties that a run in threads tests at its end (project-defined).
use Rattle.std.specs.Prelude.{◌≡◌, ℕ, ◌==◌, Bool, ◌&&◌, List, map, filter, None}
use Rattle.fr_bus.specs.declared.error.Phase.TheVariants.{Finished}
use Rattle.fr_bus.specs.States.{IsRun, OneSenderEach}
use Rattle.fr_bus.specs.Windows.{cycles_begun}
use Rattle.fr_core.specs.Accounts.{IsHarmless}
use Rattle.fr_core.specs.Answers.{without_answers}
use Rattle.fr_core.specs.Headline.{Headline}
use Rattle.fr_core.specs.Receivers.{Receivers}
use Rattle.fr_core.specs.Scripts.{Scripted, Executed, calls_at}
use Rattle.fr_core.specs.Settling.{Agrees}
use Rattle.fr_playing.specs.declared.call.ExecutedCall.{ExecutedCall}
use Rattle.fr_playing.specs.declared.play.Played.{Played}
use Rattle.fr_playing.specs.Playing.{IsPlayed}
use Rattle.fr_runs.specs.declared.fault_line.FaultLine.{FaultLine}
use Rattle.fr_runs.specs.Faulted.{HaveFaults}
use Rattle.fr_runs.specs.Refusing.{Refuses}
use Rattle.fr_runs.specs.Stepping.{AreStepped}
use Rattle.fr_schedule.specs.Descriptions.{Description}

-- ---- executed calls

abbrev pub is_own : ℕ → ℕ → ExecutedCall → Bool
is_own node task call = call.node == node && call.task == task

abbrev pub executed_of : ExecutedCall → Executed
executed_of call = (call.call, call.reply)

-- the calls of a task among these, each with its answer
abbrev pub executed_by : List ExecutedCall → ℕ → ℕ → List Executed
executed_by calls node task = map executed_of (filter (is_own node task) calls)

-- ---- a settled run

-- These are the results of a lockstep run of the cluster with these scripts, these fault lines and this number of
-- cycles. The properties are those of a run in threads, and say nothing of events.
pub record IsSettled (d : Description) (scripts : List Scripted) (lines : List FaultLine) (cycles : ℕ)
    (played : Played) : Type 0 where
  -- The interfaces are those of the cluster's nodes. Each has fetched and observed every window of the record, with the
  -- offers and observations that the record gives it. The calls of each task are the lines of its script, in their
  -- order, and a task without a script made none.
  pub agrees : Agrees d played.world.interfaces played.world.bus.sealed (map without_answers scripts)
  -- the answers of a task's calls are those that its node's journal gives
  pub answers : (node task : ℕ) → calls_at played.world.interfaces node task
      ≡ executed_by played.calls.items node task
  -- each window of the record has the faults of the lines that take effect there, and no others
  pub faults : HaveFaults lines played.world.bus.sealed
  -- each line of the scripts was executed in its cycle, before its first window and after all earlier windows
  pub stepped : AreStepped played.world.bus.sealed scripts played.world.interfaces
  -- in a guarded static slot each node's observation follows from its owner's account, whatever other nodes send
  pub harmless : IsHarmless d played.world.interfaces played.world.bus.sealed
  -- a frame that a receiver holds from a fault-free slot was committed by the slot's owner
  pub receivers : Receivers d played.world.interfaces played.world.bus.sealed
  -- no static slot of a guarded channel carried two senders
  pub one_sender : OneSenderEach d played.world.bus.sealed
  -- the bus was made for the cluster, and its windows are those of a run of the cluster
  pub cluster : played.world.bus.cluster ≡ d
  pub run_is : IsRun played.world.bus
  -- the bus came to its end
  pub finished : played.world.bus.phase ≡ Finished
  -- the record has this number of windows of static slot 1
  pub cycles_done : cycles_begun played.world.bus.sealed ≡ cycles

-- A run of events that the cluster accepts is settled. This ties two definitions of a run together: the list of its
-- events, and the properties of what it leaves.
abbrev pub PlayedIsSettled : Type 0
PlayedIsSettled = (d : Description) (scripts : List Scripted) (lines : List FaultLine) (cycles : ℕ) (played : Played)
    → Refuses d scripts lines cycles None → Headline played.world → IsPlayed d scripts lines cycles played
    → IsSettled d scripts lines cycles played
