-- The faults of a run in its record (project-defined): the flipped bits, the babbles, and the muted offers.
use Rattle.std.specs.Prelude.{◌≡◌, ℕ, ◌+◌, ◌-◌, ◌==◌, Bool, true, false, not, ◌&&◌, List, [], ◌∷◌, take, slice_get}
use Rattle.std.specs.Prelude.{Option, Some, None, IfSome, if◌then◌else◌}
use Rattle.std.specs.List.{list_any, filter}
use Rattle.std.specs.Option.{option_or}
use Rattle.arrayvec.specs.ArrayVec.{ArrayVec}
use Rattle.fr_bus.specs.declared.fault.Fault.{Fault}
use Rattle.fr_bus.specs.declared.fault.Fault.TheVariants.{Babble, Mute, Corrupt}
use Rattle.fr_bus.specs.declared.outcome.SentFate.{SentFate}
use Rattle.fr_bus.specs.declared.outcome.SentFate.TheVariants.{Passed, Blocked, Muted}
use Rattle.fr_bus.specs.declared.outcome.Sent.{Sent}
use Rattle.fr_bus.specs.Outcome.{is_of}
use Rattle.fr_bus.specs.Record.{Recorded, corrupt_on, recordable}
use Rattle.fr_bus.specs.Windows.{cycles_begun}
use Rattle.fr_runs.specs.Cycles.{names_cycle}
use Rattle.fr_runs.specs.declared.fault_line.FaultLine.{FaultLine}
use Rattle.fr_runs.specs.Striking.{strikes}
use Rattle.fr_slots.specs.Admission.{is_channel}
use Rattle.fr_slots.specs.declared.channel.Channel.{Channel}
use Rattle.fr_slots.specs.Windows.{Opportunity, slot_of}

-- ---- the effect of a fault

-- the bit that the fault flips on the channel
abbrev pub bit_turned : Channel → Fault → Option ℕ
bit_turned channel (Babble node on bytes) = None
bit_turned channel (Mute node on) = None
bit_turned channel (Corrupt on bit) = if is_channel on channel then Some bit else None

-- the bytes that the node babbles on the channel by the fault
abbrev pub bytes_babbled : ℕ → Channel → Fault → Option (ArrayVec ℕ)
bytes_babbled node channel (Babble of on bytes) = if of == node && is_channel on channel then Some bytes else None
bytes_babbled node channel (Mute of on) = None
bytes_babbled node channel (Corrupt on bit) = None

-- the fault mutes the node's offer on the channel
abbrev pub loses : ℕ → Channel → Fault → Bool
loses node channel (Babble of on bytes) = false
loses node channel (Mute of on) = of == node && is_channel on channel
loses node channel (Corrupt on bit) = false

-- ---- the effect of the lines in a window of this cycle of the run

abbrev pub bit_by : FaultLine → ℕ → Opportunity → Channel → Option ℕ
bit_by line cycle w channel = if strikes line cycle w then bit_turned channel line.fault else None

abbrev pub bit_due : List FaultLine → ℕ → Opportunity → Channel → Option ℕ
bit_due [] cycle w channel = None
bit_due (line ∷ lines) cycle w channel = option_or (bit_by line cycle w channel) (bit_due lines cycle w channel)

abbrev pub babble_by : FaultLine → ℕ → Opportunity → ℕ → Channel → Option (ArrayVec ℕ)
babble_by line cycle w node channel = if strikes line cycle w then bytes_babbled node channel line.fault else None

abbrev pub babble_due : List FaultLine → ℕ → Opportunity → ℕ → Channel → Option (ArrayVec ℕ)
babble_due [] cycle w node channel = None
babble_due (line ∷ lines) cycle w node channel =
    option_or (babble_by line cycle w node channel) (babble_due lines cycle w node channel)

abbrev pub is_lost_by : ℕ → Opportunity → ℕ → Channel → FaultLine → Bool
is_lost_by cycle w node channel line = strikes line cycle w && loses node channel line.fault

abbrev pub is_loss_due : List FaultLine → ℕ → Opportunity → ℕ → Channel → Bool
is_loss_due lines cycle w node channel = list_any (is_lost_by cycle w node channel) lines

-- the lines that name this cycle of the run; only these can take effect in it
abbrev pub lines_of_cycle : ℕ → List FaultLine → List FaultLine
lines_of_cycle cycle lines = filter (λ (line : FaultLine). names_cycle line.cycles cycle) lines

-- ---- the record of a babble

abbrev pub is_muted : SentFate → Bool
is_muted Passed = false
is_muted Blocked = false
is_muted Muted = true

abbrev pub is_babble_of : Channel → ℕ → Sent → Bool
is_babble_of channel node t = is_of node t && is_channel t.channel channel && t.babble

-- the bytes of the node's babble among these
abbrev pub babble_in : Channel → ℕ → List Sent → Option (ArrayVec ℕ)
babble_in channel node [] = None
babble_in channel node (t ∷ ts) = if is_babble_of channel node t then Some t.bytes else babble_in channel node ts

-- The window has exactly the faults of the lines that take effect there in this cycle of the run:
-- - on each channel, the bit that a line flips;
-- - for each node on each channel, the babble that a line gives it, if the channel has a slot and the babble has bytes;
-- - among its transmissions, a mute of exactly those offers that a line mutes.
pub record HasFaults (lines : List FaultLine) (cycle : ℕ) (r : Recorded) : Type 0 where
  pub bits : (channel : Channel) → corrupt_on r channel ≡ bit_due lines cycle r.window channel
  pub babbles : (node : ℕ) (channel : Channel) → babble_in channel node r.sent
      ≡ recordable (slot_of r.window channel) (babble_due lines cycle r.window node channel)
  pub losses : (k : ℕ) (t : Sent) → slice_get r.sent k ≡ Some t
      → is_muted t.fate ≡ (not t.babble && is_loss_due lines cycle r.window t.node t.channel)

-- the number of the run's cycle, from 0, of the window at this place of the record
abbrev pub cycle_at : List Recorded → ℕ → ℕ
cycle_at rs k = cycles_begun (take (k + 1) rs) - 1

abbrev pub HasFaultsAt : List FaultLine → List Recorded → ℕ → Type 0
HasFaultsAt lines rs k = IfSome (slice_get rs k) (HasFaults lines (cycle_at rs k))

-- each window of the record has exactly the faults of the lines that take effect there
abbrev pub HaveFaults : List FaultLine → List Recorded → Type 0
HaveFaults lines rs = (k : ℕ) → HasFaultsAt lines rs k

-- ---- a window transmission by transmission, and line by line

-- the transmission is a babble of a line that takes effect, or an offer that is muted exactly if such a line mutes it
pub record IsDue (lines : List FaultLine) (cycle : ℕ) (w : Opportunity) (t : Sent) : Type 0 where
  pub babble : t.babble ≡ true
      → recordable (slot_of w t.channel) (babble_due lines cycle w t.node t.channel) ≡ Some t.bytes
  pub loss : is_muted t.fate ≡ (not t.babble && is_loss_due lines cycle w t.node t.channel)

abbrev pub IsDueAt : List FaultLine → ℕ → Recorded → ℕ → Type 0
IsDueAt lines cycle r k = IfSome (slice_get r.sent k) (IsDue lines cycle r.window)

-- the window has the babble that the fault gives a node
abbrev pub IsBabbled : Recorded → Fault → Type 0
IsBabbled r (Babble node channel bytes) =
    babble_in channel node r.sent ≡ recordable (slot_of r.window channel) (Some bytes)
IsBabbled r (Mute node channel) = Unit {0}
IsBabbled r (Corrupt channel bit) = Unit {0}

abbrev pub IsBabbledBy : ℕ → Recorded → FaultLine → Type 0
IsBabbledBy cycle r line = strikes line cycle r.window ≡ true → IsBabbled r line.fault

abbrev pub IsBabbledAt : List FaultLine → ℕ → Recorded → ℕ → Type 0
IsBabbledAt lines cycle r k = IfSome (slice_get lines k) (IsBabbledBy cycle r)
