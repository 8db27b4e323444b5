-- The bytes of a capture of a run's bus, and the law that they are read as a recording without findings
-- (project-defined).
use Rattle.std.specs.Prelude.{◌≡◌, ℕ, Bool, true, false, List, [], ◌++◌, Some, None}
use Rattle.fr_bus.specs.Record.{Recorded, heard}
use Rattle.fr_capture.specs.Pcap.{file_header, record_seen}
use Rattle.fr_core.specs.Worlds.{WorldState}
use Rattle.fr_hearing.specs.Alarms.{judged}
use Rattle.fr_hearing.specs.Runs.{IsHealthy}
use Rattle.fr_judging.specs.Judging.{fresh, finish, has_finding}
use Rattle.fr_judging.specs.Rules.{rules_of, has_sender, other_channel}
use Rattle.fr_recording.specs.Stream.{records_in, refusal_in}
use Rattle.fr_slots.specs.declared.channel.Channel.{Channel}
use Rattle.fr_slots.specs.declared.channel.Channel.TheVariants.{A, B}
use Rattle.fr_slots.specs.History.{each_after}
use Rattle.fr_slots.specs.Parameters.{Parameters}

-- what a listener receives in a window at a time in microseconds, channel A before B
abbrev pub window_seen : Parameters → ℕ → Recorded → List ℕ
window_seen p time r = record_seen false time A (heard p r A) None ++ record_seen false time B (heard p r B) None

-- the time of a window, after those before it
abbrev pub Clock : Type 0
Clock = List Recorded → Recorded → ℕ

-- a capture of all windows of a record, in their order, as `fr_view bus` writes it
abbrev pub capture_of : Clock → Parameters → List Recorded → List ℕ
capture_of time p rs = file_header ++ each_after (λ before r. window_seen p (time before r) r) [] rs

-- Of a run without faults the capture is read to its end, and its records have no finding on either channel by itself.
abbrev pub NoAlarmInFile : WorldState → Type 0
NoAlarmInFile w = (most : ℕ) (whole : Bool) (channel : Channel) (time : Clock) → ((on : Channel) → IsHealthy w on)
    → (refusal_in (capture_of time w.bus.cluster.params w.bus.sealed) ≡ None)
    × (has_finding (finish (judged (fresh (rules_of w.bus.cluster most whole (Some channel) 0))
    (records_in (capture_of time w.bus.cluster.params w.bus.sealed))) true) ≡ false)

-- If one channel alone has a sender, both channels together have no finding, either.
abbrev pub NoAlarmInFileOfBoth : WorldState → Type 0
NoAlarmInFileOfBoth w = (most : ℕ) (whole : Bool) (channel : Channel) (time : Clock)
    → ((on : Channel) → IsHealthy w on) → has_sender w.bus.cluster channel ≡ true
    → has_sender w.bus.cluster (other_channel channel) ≡ false
    → has_finding (finish (judged (fresh (rules_of w.bus.cluster most whole None 0))
    (records_in (capture_of time w.bus.cluster.params w.bus.sealed))) true) ≡ false
