-- Runs without faults in which a listener receives chosen frames (project-defined).
use Rattle.std.specs.Prelude.{◌≡◌, ℕ, ◌+◌, ◌*◌, ◌<◌, ◌^◌, ◌==◌, false, true, if◌then◌else◌, List, [], ◌∷◌, ◌++◌, length}
use Rattle.std.specs.Prelude.{Some}
use Rattle.fr_bus.specs.Courses.{opportunities}
use Rattle.fr_bus.specs.declared.error.Phase.TheVariants.{Finished}
use Rattle.fr_bus.specs.Record.{Recorded}
use Rattle.fr_bus.specs.Windows.{cycles_begun}
use Rattle.fr_core.specs.Worlds.{WorldState, opening_world}
use Rattle.fr_frame.specs.Fields.{Fields}
use Rattle.fr_guarantees.specs.Exactness.{HasRoom}
use Rattle.fr_guarantees.specs.Leading.{Leads}
use Rattle.fr_hearing.specs.Accepted.{AreDecoded}
use Rattle.fr_hearing.specs.Alarms.{judged}
use Rattle.fr_hearing.specs.Heard.{AreHeard}
use Rattle.fr_hearing.specs.Runs.{AreReceived}
use Rattle.fr_judging.specs.Judging.{fresh, finish, has_finding}
use Rattle.fr_judging.specs.Rules.{rules_of, has_sender}
use Rattle.fr_recording.specs.Records.{Record}
use Rattle.fr_schedule.specs.Clusters.{IsCluster}
use Rattle.fr_schedule.specs.Descriptions.{Description}
use Rattle.fr_slots.specs.declared.channel.Channel.{Channel}

-- ---- the cycles of some frames

-- the cycles that begin with one of these frames, after a frame of this cycle
abbrev pub cycles_after : ℕ → List Fields → ℕ
cycles_after cycle [] = 0
cycles_after cycle (f ∷ fs) = (if f.cycle == cycle then 0 else 1) + cycles_after f.cycle fs

-- A run has its first cycle at count 0. So it has as many cycles as come before the first frame's count, and those of
-- the frames.
abbrev pub cycles_for : Fields → List Fields → ℕ
cycles_for f fs = f.cycle + 1 + cycles_after f.cycle fs

-- Each journal has room for the run, with three calls of the host for a frame. The numbers of its windows fit.
pub record HasRoomFor (d : Description) (f : Fields) (fs : List Fields) : Type 0 where
  pub journals : HasRoom d (cycles_for f fs) (3 * length (f ∷ fs))
  pub numbers : cycles_for f fs * opportunities d.params < 2 ^ 32

-- ---- a run that leaves them

-- Accepted events, none of which injects a fault, lead from the start of a run to its end. From a cycle on, a listener
-- receives these frames on the channel, window by window.
pub record IsReplayed (d : Description) (channel : Channel) (f : Fields) (fs : List Fields) : Type 0 where
  pub world : WorldState
  pub leads : Leads (opening_world d (cycles_for f fs)) world
  pub finished : world.bus.phase ≡ Finished
  pub before : List Recorded
  pub rest : List Recorded
  pub sealed_are : world.bus.sealed ≡ before ++ rest
  pub begun_are : cycles_begun before ≡ f.cycle
  pub received : AreReceived d.params channel rest (f ∷ fs)

-- If the cluster allows some frames in whole cycles of a channel, they are those of a run without faults.
abbrev pub AreReplayed : Type 0
AreReplayed = (d : Description) (channel : Channel) (f : Fields) (fs : List Fields) → IsCluster d
    → AreHeard d channel (f ∷ fs) → HasRoomFor d f fs → IsReplayed d channel f fs

-- ---- nothing missed

-- Some run without faults has the frames of the recording, if there is room for it.
pub record IsOfRun (d : Description) (channel : Channel) (rs : List Record) (f : Fields) (fs : List Fields)
    : Type 0 where
  pub decoded : AreDecoded d channel rs (f ∷ fs)
  pub cycles : AreHeard d channel (f ∷ fs)
  pub replayed : HasRoomFor d f fs → IsReplayed d channel f fs

-- its first frame, and those after it
pub record HasRun (d : Description) (channel : Channel) (rs : List Record) : Type 0 where
  pub first : Fields
  pub rest : List Fields
  pub of_run : IsOfRun d channel rs first rest

-- Take a channel on which a node sends. If its judgement by itself, as a whole and without times, has no finding, then
-- some run without faults leaves the frames of the recording there.
abbrev pub NothingMissed : Type 0
NothingMissed = (d : Description) (most : ℕ) (channel : Channel) (rs : List Record) → IsCluster d
    → has_sender d channel ≡ true
    → has_finding (finish (judged (fresh (rules_of d most true (Some channel) 0)) rs) true) ≡ false
    → HasRun d channel rs
