-- Recordings of both channels of a run at the times of its schedule, and the laws that these have no finding
-- (project-defined).
use Rattle.std.specs.Prelude.{◌≡◌, ℕ, pos, Bool, true, false, List, [], ◌∷◌, ◌++◌, ◌⊎◌, Some, None}
use Rattle.fr_bus.specs.Record.{Recorded, heard}
use Rattle.fr_core.specs.Worlds.{WorldState}
use Rattle.fr_hearing.specs.Alarms.{judged}
use Rattle.fr_hearing.specs.Files.{Clock, capture_of}
use Rattle.fr_hearing.specs.Runs.{IsHealthy, logged}
use Rattle.fr_hearing.specs.Schedule.{Timeline, IsTimeline}
use Rattle.fr_hearing.specs.TimedRuns.{window_begins, bounds_of, IsWithin, Packet, packets_at, KeepsTime}
use Rattle.fr_judging.specs.Judging.{fresh, finish, has_finding}
use Rattle.fr_judging.specs.Rules.{rules_of}
use Rattle.fr_logged.specs.declared.record.Kind.TheVariants.{Foreign}
use Rattle.fr_logged.specs.Logged.{kind_of}
use Rattle.fr_recording.specs.Records.{Record}
use Rattle.fr_recording.specs.Stream.{records_in}
use Rattle.fr_slots.specs.declared.channel.Channel.TheVariants.{A, B}
use Rattle.fr_slots.specs.Parameters.{Parameters}

-- the packets of all that a listener receives on both channels after some windows, window by window, channel A before B
abbrev pub packets_of_both_after : Parameters → Timeline → List Recorded → List Recorded → List Packet
packets_of_both_after p t before [] = []
packets_of_both_after p t before (r ∷ rs) =
    packets_at (bounds_of p t before r) A (heard p r A) ++ (packets_at (bounds_of p t before r) B (heard p r B)
    ++ packets_of_both_after p t (before ++ r ∷ []) rs)

abbrev pub timely_packets : Parameters → Timeline → List Recorded → List Packet
timely_packets p t rs = packets_of_both_after p t [] rs

-- The records are those of these packets, in this order, within the bounds of their times. Foreign records may stand
-- between, at any times.
abbrev pub AreInOrderAt : ℕ → List Record → List Packet → Type 0
AreInOrderAt slack [] packets = packets ≡ []
AreInOrderAt slack (r ∷ rs) packets =
    ((kind_of r.link r.bytes ≡ Foreign) × AreInOrderAt slack rs packets)
    ⊎ ((time : ℕ) × (x : Packet) × (rest : List Packet) × (packets ≡ x ∷ rest) × IsWithin slack time x.bounds
    × (r ≡ logged (Some (pos time)) x.bytes) × AreInOrderAt slack rs rest)

-- In a run without faults on either channel, both have no finding, judged together and with times.
abbrev pub NoAlarmTogetherInTime : WorldState → Type 0
NoAlarmTogetherInTime w = (most : ℕ) (whole : Bool) (t : Timeline) (records : List Record)
    → IsTimeline w.bus.cluster.params t → IsHealthy w A → IsHealthy w B
    → AreInOrderAt t.slack records (timely_packets w.bus.cluster.params t w.bus.sealed)
    → has_finding (finish (judged (fresh (rules_of w.bus.cluster most whole None t.macrotick)) records) true) ≡ false

-- The same of the capture of such a run's bus, with a clock that keeps the schedule.
abbrev pub NoAlarmInTimelyFileTogether : WorldState → Type 0
NoAlarmInTimelyFileTogether w = (most : ℕ) (whole : Bool) (t : Timeline) (time : Clock)
    → IsTimeline w.bus.cluster.params t → IsHealthy w A → IsHealthy w B
    → KeepsTime w.bus.cluster.params t time w.bus.sealed
    → has_finding (finish (judged (fresh (rules_of w.bus.cluster most whole None t.macrotick))
    (records_in (capture_of time w.bus.cluster.params w.bus.sealed))) true) ≡ false

-- A capture with the times of windows in microseconds has none with a macrotick of 1000 nanoseconds.
abbrev pub NoAlarmInExactFileTogether : WorldState → Type 0
NoAlarmInExactFileTogether w = (most : ℕ) (whole : Bool) → IsHealthy w A → IsHealthy w B
    → has_finding (finish (judged (fresh (rules_of w.bus.cluster most whole None 1000))
    (records_in (capture_of (window_begins w.bus.cluster.params) w.bus.cluster.params w.bus.sealed))) true) ≡ false
