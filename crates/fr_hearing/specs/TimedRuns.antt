-- Recordings of a run at the times of its schedule, and the laws that times add no finding (project-defined).
use Rattle.std.specs.Prelude.{◌≡◌, ℕ, pos, ◌+◌, ◌-◌, ◌*◌, ◌/◌, ◌^◌, ◌<◌, ◌≤◌, Bool, true, false, List, [], ◌∷◌, ◌++◌}
use Rattle.std.specs.Prelude.{◌⊎◌, Option, Some}
use Rattle.fr_bus.specs.Record.{Recorded, heard}
use Rattle.fr_bus.specs.Windows.{cycles_begun}
use Rattle.fr_capture.specs.Moments.{start_of}
use Rattle.fr_capture.specs.Pcap.{packet}
use Rattle.fr_core.specs.Worlds.{WorldState}
use Rattle.fr_frame.specs.Refusal.{refusal}
use Rattle.fr_hearing.specs.Alarms.{is_on, judged}
use Rattle.fr_hearing.specs.Files.{Clock, capture_of}
use Rattle.fr_hearing.specs.Runs.{IsHealthy, logged}
use Rattle.fr_hearing.specs.Schedule.{Timeline, IsTimeline, AreNear, cycle_length, even_timeline}
use Rattle.fr_judging.specs.Judging.{fresh, finish, has_finding}
use Rattle.fr_judging.specs.Rules.{rules_of, judged_by}
use Rattle.fr_logged.specs.Logged.{kind_of}
use Rattle.fr_recording.specs.Records.{Record}
use Rattle.fr_recording.specs.Stream.{records_in}
use Rattle.fr_slots.specs.declared.channel.Channel.{Channel}
use Rattle.fr_slots.specs.Parameters.{Parameters, IsParameters}
use Rattle.fr_slots.specs.Windows.{is_static}
use Rattle.fr_status.specs.declared.seen.Seen.TheVariants.{Silence, Own, Conflict, Noise, Overrun, Bytes}
use Rattle.fr_status.specs.Forms.{Seen}

-- ---- the times of windows

-- the macrotick of the run at which a window begins, after the windows before it
abbrev pub window_begins : Parameters → List Recorded → Recorded → ℕ
window_begins p before r = (cycles_begun (before ++ r ∷ []) - 1) * p.cycle_mt + start_of p r.window

-- the time that is due, in nanoseconds
abbrev pub time_due : Parameters → Timeline → List Recorded → Recorded → ℕ
time_due p t before r = t.starts (cycles_begun (before ++ r ∷ []) - 1) + start_of p r.window * t.macrotick

-- the earliest and the latest time of a window's record, without the slack
pub record Bounds : Type 0 where
  pub earliest : ℕ
  pub latest : ℕ

pub record IsWithin (slack time : ℕ) (b : Bounds) : Type 0 where
  pub not_early : b.earliest ≤ time + slack
  pub not_late : time ≤ b.latest + slack

-- A record of a static window has the time at which the window begins. One of a dynamic window has any time of the
-- cycle, as the start of its frame or the end.
abbrev pub bounds_as : Parameters → Timeline → ℕ → ℕ → Bool → Bounds
bounds_as p t cycle due true = record { earliest = due; latest = due }
bounds_as p t cycle due false = record { earliest = t.starts cycle; latest = t.starts cycle + cycle_length p t }

abbrev pub bounds_of : Parameters → Timeline → List Recorded → Recorded → Bounds
bounds_of p t before r =
    bounds_as p t (cycles_begun (before ++ r ∷ []) - 1) (time_due p t before r) (is_static r.window)

-- A time near the start of any window is within them.
abbrev pub NearIsWithin : Type 0
NearIsWithin = (p : Parameters) (t : Timeline) (before : List Recorded) (r : Recorded) (time : ℕ) → IsParameters p
    → AreNear t.slack time (time_due p t before r) → IsWithin t.slack time (bounds_of p t before r)

-- ---- recordings

-- the bytes of a packet with its channel, and the bounds of its time
pub record Packet : Type 0 where
  pub channel : Channel
  pub bounds : Bounds
  pub bytes : List ℕ

abbrev pub packets_at : Bounds → Channel → Seen → List Packet
packets_at bounds channel Silence = []
packets_at bounds channel Own = []
packets_at bounds channel Conflict = []
packets_at bounds channel Noise = []
packets_at bounds channel Overrun = []
packets_at bounds channel (Bytes bytes) =
    record { channel = channel; bounds = bounds; bytes = packet channel (refusal channel bytes.items) bytes.items } ∷ []

-- the packets of all that a listener receives on the channel after some windows, window by window
abbrev pub packets_after : Parameters → Timeline → Channel → List Recorded → List Recorded → List Packet
packets_after p t channel before [] = []
packets_after p t channel before (r ∷ rs) =
    packets_at (bounds_of p t before r) channel (heard p r channel)
    ++ packets_after p t channel (before ++ r ∷ []) rs

abbrev pub packets_on : Parameters → Timeline → Channel → List Recorded → List Packet
packets_on p t channel rs = packets_after p t channel [] rs

-- The records of the channel are those of these packets, within the bounds of their times. Records of other kinds may
-- stand between, at any times.
abbrev pub AreLoggedAt : ℕ → Channel → List Record → List Packet → Type 0
AreLoggedAt slack channel [] packets = packets ≡ []
AreLoggedAt slack channel (r ∷ rs) packets =
    ((is_on channel (kind_of r.link r.bytes) ≡ false) × AreLoggedAt slack channel rs packets)
    ⊎ ((time : ℕ) × (x : Packet) × (rest : List Packet) × (packets ≡ x ∷ rest) × IsWithin slack time x.bounds
    × (r ≡ logged (Some (pos time)) x.bytes) × AreLoggedAt slack channel rs rest)

-- ---- the laws for records

-- each channel that is judged has no fault, and is recorded in time
abbrev pub AreRecordedInTime : WorldState → Timeline → Option Channel → List Record → Type 0
AreRecordedInTime w t only records = (channel : Channel) → judged_by only channel ≡ true
    → IsHealthy w channel × AreLoggedAt t.slack channel records (packets_on w.bus.cluster.params t channel w.bus.sealed)

-- The judgement has a finding with times exactly if it has one without times, of one channel or of both.
abbrev pub TimesAddNothing : WorldState → Type 0
TimesAddNothing w = (most : ℕ) (whole : Bool) (only : Option Channel) (t : Timeline) (records : List Record)
    → IsTimeline w.bus.cluster.params t → AreRecordedInTime w t only records
    → has_finding (finish (judged (fresh (rules_of w.bus.cluster most whole only t.macrotick)) records) true)
    ≡ has_finding (finish (judged (fresh (rules_of w.bus.cluster most whole only 0)) records) true)

-- A recording of a run without faults has no finding on the channel by itself, with times.
abbrev pub NoAlarmInTime : WorldState → Type 0
NoAlarmInTime w = (most : ℕ) (whole : Bool) (channel : Channel) (t : Timeline) (records : List Record)
    → IsTimeline w.bus.cluster.params t → IsHealthy w channel
    → AreLoggedAt t.slack channel records (packets_on w.bus.cluster.params t channel w.bus.sealed)
    → has_finding (finish (judged (fresh (rules_of w.bus.cluster most whole (Some channel) t.macrotick)) records) true)
    ≡ false

-- ---- the laws for captures

-- The clock of a capture, in microseconds, is within the bounds in each window. A record has four bytes for the
-- seconds.
abbrev pub KeepsTime : Parameters → Timeline → Clock → List Recorded → Type 0
KeepsTime p t time rs = (before : List Recorded) (r : Recorded) (rest : List Recorded) → rs ≡ before ++ r ∷ rest
    → (time before r < 2 ^ 32 * 1000000) × IsWithin t.slack (time before r * 1000) (bounds_of p t before r)

-- So a clock that is near the start of each window keeps time.
abbrev pub NearKeepsTime : Type 0
NearKeepsTime = (p : Parameters) (t : Timeline) (time : Clock) (rs : List Recorded) → IsParameters p
    → ((before : List Recorded) (r : Recorded) (rest : List Recorded) → rs ≡ before ++ r ∷ rest
    → (time before r < 2 ^ 32 * 1000000) × AreNear t.slack (time before r * 1000) (time_due p t before r))
    → KeepsTime p t time rs

-- The same of the capture of such a run's bus.
abbrev pub NoAlarmInTimelyFile : WorldState → Type 0
NoAlarmInTimelyFile w = (most : ℕ) (whole : Bool) (channel : Channel) (t : Timeline) (time : Clock)
    → IsTimeline w.bus.cluster.params t → ((on : Channel) → IsHealthy w on)
    → KeepsTime w.bus.cluster.params t time w.bus.sealed
    → has_finding (finish (judged (fresh (rules_of w.bus.cluster most whole (Some channel) t.macrotick))
    (records_in (capture_of time w.bus.cluster.params w.bus.sealed))) true) ≡ false

-- Both channels of that capture together have a finding with times exactly if they have one without times.
abbrev pub TimesAddNothingInFile : WorldState → Type 0
TimesAddNothingInFile w = (most : ℕ) (whole : Bool) (only : Option Channel) (t : Timeline) (time : Clock)
    → IsTimeline w.bus.cluster.params t → ((on : Channel) → IsHealthy w on)
    → KeepsTime w.bus.cluster.params t time w.bus.sealed
    → has_finding (finish (judged (fresh (rules_of w.bus.cluster most whole only t.macrotick))
    (records_in (capture_of time w.bus.cluster.params w.bus.sealed))) true)
    ≡ has_finding (finish (judged (fresh (rules_of w.bus.cluster most whole only 0))
    (records_in (capture_of time w.bus.cluster.params w.bus.sealed))) true)

-- A macrotick of a microsecond, a run that starts at time 0, and exact times: those of `fr_view bus`.
abbrev pub whole_microseconds : Parameters → Timeline
whole_microseconds p = even_timeline p 1000 0 0

-- The clock of windows keeps them in each run.
abbrev pub WindowsKeepTime : WorldState → Type 0
WindowsKeepTime w = IsTimeline w.bus.cluster.params (whole_microseconds w.bus.cluster.params)
    × KeepsTime w.bus.cluster.params (whole_microseconds w.bus.cluster.params)
    (window_begins w.bus.cluster.params) w.bus.sealed

-- So a capture with these times has no finding on a channel by itself, with a macrotick of 1000 nanoseconds.
abbrev pub NoAlarmInExactFile : WorldState → Type 0
NoAlarmInExactFile w = (most : ℕ) (whole : Bool) (channel : Channel) → ((on : Channel) → IsHealthy w on)
    → has_finding (finish (judged (fresh (rules_of w.bus.cluster most whole (Some channel) 1000))
    (records_in (capture_of (window_begins w.bus.cluster.params) w.bus.cluster.params w.bus.sealed))) true) ≡ false

-- A clock that rounds down to a microsecond loses 999 nanoseconds at most. With that slack it keeps each schedule whose
-- times are below 2^32 seconds.
abbrev pub rounded_down : Parameters → Timeline → Clock
rounded_down p t before r = time_due p t before r / 1000

abbrev pub RoundedKeepsTime : Type 0
RoundedKeepsTime = (p : Parameters) (t : Timeline) (rs : List Recorded) → IsParameters p → 999 ≤ t.slack
    → ((before : List Recorded) (r : Recorded) (rest : List Recorded) → rs ≡ before ++ r ∷ rest
    → time_due p t before r < 2 ^ 32 * 10 ^ 9)
    → KeepsTime p t (rounded_down p t) rs
