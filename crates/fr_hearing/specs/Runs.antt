-- A run without faults on a channel, what a logger on its bus records, and the law that this has no finding
-- (project-defined).
use Rattle.std.specs.Prelude.{◌≡◌, ℕ, ℤ, ◌<◌, ◌≤◌, Bool, true, false, List, [], ◌∷◌, ◌++◌, length, slice_get, ◌⊎◌}
use Rattle.std.specs.Prelude.{Option, Some, None}
use Rattle.arrayvec.specs.ArrayVec.{ArrayVec}
use Rattle.fr_bus.specs.declared.error.Phase.TheVariants.{Finished}
use Rattle.fr_bus.specs.Record.{Recorded, corrupt_on, heard}
use Rattle.fr_bus.specs.Windows.{this_cycle, statics_of}
use Rattle.fr_capture.specs.Pcap.{packet, link_type}
use Rattle.fr_core.specs.Worlds.{WorldState}
use Rattle.fr_frame.specs.Encoding.{encoded}
use Rattle.fr_frame.specs.Fields.{Fields}
use Rattle.fr_frame.specs.Refusal.{refusal}
use Rattle.fr_hearing.specs.Alarms.{is_on, judged}
use Rattle.fr_hearing.specs.Heard.{AreHeard}
use Rattle.fr_hearing.specs.Listening.{AreSound}
use Rattle.fr_judging.specs.Judging.{fresh, finish, has_finding}
use Rattle.fr_judging.specs.Rules.{rules_of, is_clocked, has_sender, no_clock_on, other_channel}
use Rattle.fr_logged.specs.Logged.{kind_of}
use Rattle.fr_recording.specs.Records.{Record}
use Rattle.fr_schedule.specs.Descriptions.{Description}
use Rattle.fr_slots.specs.declared.channel.Channel.{Channel}
use Rattle.fr_slots.specs.Parameters.{Parameters}
use Rattle.fr_status.specs.declared.seen.Seen.TheVariants.{Silence, Own, Conflict, Noise, Overrun, Bytes}
use Rattle.fr_status.specs.Forms.{Seen}

-- ---- runs

-- no bit is flipped on the channel
abbrev pub IsIntact : Channel → List Recorded → Type 0
IsIntact channel rs = (k : ℕ) (r : Recorded) → slice_get rs k ≡ Some r → corrupt_on r channel ≡ None

-- if a node sends on the channel, a static slot has an owner there in each cycle
abbrev pub IsClocked : Description → Channel → Type 0
IsClocked d channel = has_sender d channel ≡ true → (cycle : ℕ) → cycle < 64 → is_clocked d channel cycle ≡ true

-- This holds of each cluster that isn't refused as `NoClock`.
abbrev pub ClockIsTold : Type 0
ClockIsTold = (d : Description) (most : ℕ) (whole : Bool) (channel : Channel) (macrotick : ℕ)
    → no_clock_on (rules_of d most whole (Some channel) macrotick) channel ≡ None → IsClocked d channel

-- there is a cycle, and the last one has all its static windows
pub record IsComplete (p : Parameters) (rs : List Recorded) : Type 0 where
  pub some_window : 1 ≤ length rs
  pub static_over : p.static_slots ≤ statics_of (this_cycle rs)

-- A run that is over is complete.
abbrev pub FinishedIsComplete : WorldState → Type 0
FinishedIsComplete w = w.bus.phase ≡ Finished → IsComplete w.bus.cluster.params w.bus.sealed

-- On the channel the run has no babble, no muted offer and no flipped bit. It ends with a cycle, or after the static
-- segment of one.
pub record IsHealthy (w : WorldState) (channel : Channel) : Type 0 where
  pub sound : AreSound channel w.bus.sealed
  pub intact : IsIntact channel w.bus.sealed
  pub clocked : IsClocked w.bus.cluster channel
  pub complete : IsComplete w.bus.cluster.params w.bus.sealed

-- ---- the frames of a run

-- In each window a listener receives nothing, or the spelling of a frame. These are the frames, window by window.
abbrev pub AreReceived : Parameters → Channel → List Recorded → List Fields → Type 0
AreReceived p channel [] fs = fs ≡ []
AreReceived p channel (r ∷ rs) fs =
    ((heard p r channel ≡ Silence) × AreReceived p channel rs fs)
    ⊎ ((bytes : ArrayVec ℕ) × (f : Fields) × (rest : List Fields) × (fs ≡ f ∷ rest)
    × (heard p r channel ≡ Bytes bytes) × (bytes.items ≡ encoded f channel) × AreReceived p channel rs rest)

-- the frames of the run, which the cluster allows cycle by cycle
pub record HasCycles (w : WorldState) (channel : Channel) : Type 0 where
  pub first : Fields
  pub rest : List Fields
  pub received : AreReceived w.bus.cluster.params channel w.bus.sealed (first ∷ rest)
  pub cycles : AreHeard w.bus.cluster channel (first ∷ rest)

-- The frames that a listener receives in a run without faults are those of whole cycles.
abbrev pub CyclesAreHeard : WorldState → Type 0
CyclesAreHeard w = (channel : Channel) → has_sender w.bus.cluster channel ≡ true → IsHealthy w channel
    → HasCycles w channel

-- ---- recordings of a run

-- the packet of received bytes, as `fr_capture` writes it; no other observation has one
abbrev pub packets_seen : Channel → Seen → List (List ℕ)
packets_seen channel Silence = []
packets_seen channel Own = []
packets_seen channel Conflict = []
packets_seen channel Noise = []
packets_seen channel Overrun = []
packets_seen channel (Bytes bytes) = packet channel (refusal channel bytes.items) bytes.items ∷ []

-- the packets of all that a listener receives, window by window
abbrev pub packets_of : Parameters → Channel → List Recorded → List (List ℕ)
packets_of p channel [] = []
packets_of p channel (r ∷ rs) = packets_seen channel (heard p r channel) ++ packets_of p channel rs

-- the record of a packet
abbrev pub logged : Option ℤ → List ℕ → Record
logged time bytes = record { time = time; link = link_type; original = length bytes; bytes = bytes }

-- the records of the channel are those of these packets, at any times and between any records of other kinds
abbrev pub AreLogged : Channel → List Record → List (List ℕ) → Type 0
AreLogged channel [] packets = packets ≡ []
AreLogged channel (r ∷ rs) packets =
    ((is_on channel (kind_of r.link r.bytes) ≡ false) × AreLogged channel rs packets)
    ⊎ ((time : Option ℤ) × (bytes : List ℕ) × (rest : List (List ℕ)) × (packets ≡ bytes ∷ rest)
    × (r ≡ logged time bytes) × AreLogged channel rs rest)

-- A recording of a run without faults has no finding on the channel by itself, without times.
abbrev pub NoAlarmInRun : WorldState → Type 0
NoAlarmInRun w = (most : ℕ) (whole : Bool) (channel : Channel) (records : List Record) → IsHealthy w channel
    → AreLogged channel records (packets_of w.bus.cluster.params channel w.bus.sealed)
    → has_finding (finish (judged (fresh (rules_of w.bus.cluster most whole (Some channel) 0)) records) true) ≡ false

-- If the channel alone has a sender, both channels together have no finding, either.
abbrev pub NoAlarmOfBoth : WorldState → Type 0
NoAlarmOfBoth w = (most : ℕ) (whole : Bool) (channel : Channel) (records : List Record) → IsHealthy w channel
    → has_sender w.bus.cluster channel ≡ true → has_sender w.bus.cluster (other_channel channel) ≡ false
    → AreLogged channel records (packets_of w.bus.cluster.params channel w.bus.sealed)
    → AreLogged (other_channel channel) records []
    → has_finding (finish (judged (fresh (rules_of w.bus.cluster most whole None 0)) records) true) ≡ false
