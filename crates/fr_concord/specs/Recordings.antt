-- The capture of a bus as `fr_view bus` writes it, read back as a recording (project-defined).
use Rattle.std.specs.Prelude.{◌≡◌, ℕ, ◌-◌, Bool, true, false, List, [], ◌∷◌, ◌++◌, Option, Some, None}
use Rattle.fr_bus.specs.Record.{Recorded}
use Rattle.fr_bus.specs.Windows.{cycles_begun}
use Rattle.fr_core.specs.Worlds.{WorldState}
use Rattle.fr_hearing.specs.Alarms.{judged}
use Rattle.fr_hearing.specs.Files.{capture_of as capture_at}
use Rattle.fr_hearing.specs.ReadBack.{AreShort, read_of}
use Rattle.fr_hearing.specs.Runs.{IsHealthy}
use Rattle.fr_judging.specs.Judging.{fresh, finish, has_finding}
use Rattle.fr_judging.specs.Rules.{rules_of}
use Rattle.fr_recording.specs.Stream.{records_in, refusal_in}
use Rattle.fr_showing.specs.Listening.{begins_at, capture_of}
use Rattle.fr_slots.specs.declared.channel.Channel.{Channel}
use Rattle.fr_slots.specs.Parameters.{Parameters}

-- the microsecond of the run at which a window begins, after those before it
abbrev pub window_time : Parameters → List Recorded → Recorded → ℕ
window_time p before r = begins_at p (cycles_begun (before ++ r ∷ []) - 1) r.window

-- The capture is one in the form of `fr_hearing`, at these times.
abbrev pub IsSameCapture : Type 0
IsSameCapture = (p : Parameters) (rs : List Recorded) → capture_of p rs ≡ capture_at (window_time p) p rs

-- It is read to its end. Its records are those of all that a listener receives, with or without faults, each with its
-- time.
abbrev pub IsReadAgain : Type 0
IsReadAgain = (p : Parameters) (rs : List Recorded) → AreShort p rs
    → (refusal_in (capture_of p rs) ≡ None) × (records_in (capture_of p rs) ≡ read_of (window_time p) p rs)

-- In a run without faults they have no finding on either channel by itself, without times.
abbrev pub HasNoAlarm : WorldState → Type 0
HasNoAlarm w = (most : ℕ) (whole : Bool) (channel : Channel) → ((on : Channel) → IsHealthy w on)
    → has_finding (finish (judged (fresh (rules_of w.bus.cluster most whole (Some channel) 0))
    (records_in (capture_of w.bus.cluster.params w.bus.sealed))) true) ≡ false

-- Nor have they any with times, at a macrotick of 1000 nanoseconds, on either channel by itself or on both together.
abbrev pub HasNoAlarmInTime : WorldState → Type 0
HasNoAlarmInTime w = (most : ℕ) (whole : Bool) (only : Option Channel) → ((on : Channel) → IsHealthy w on)
    → has_finding (finish (judged (fresh (rules_of w.bus.cluster most whole only 1000))
    (records_in (capture_of w.bus.cluster.params w.bus.sealed))) true) ≡ false
