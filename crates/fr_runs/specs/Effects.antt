-- The effects of fault lines on the bus, and the lines that had none (project-defined).
use Rattle.std.specs.Prelude.{ℕ, ◌-◌, ◌/◌, ◌==◌, nat_le, nat_lt, Bool, false, ◌&&◌, ◌||◌, List, [], ◌∷◌, ◌++◌, length}
use Rattle.std.specs.Prelude.{count_by, Option, Some, None, if◌then◌else◌}
use Rattle.std.specs.List.{list_any, filter}
use Rattle.fr_bus.specs.declared.fault.Fault.{Fault}
use Rattle.fr_bus.specs.declared.fault.Fault.TheVariants.{Babble, Mute, Corrupt}
use Rattle.fr_bus.specs.declared.outcome.Sent.{Sent}
use Rattle.fr_bus.specs.Outcome.{is_of, passed_on}
use Rattle.fr_bus.specs.Record.{Recorded, corrupt_on}
use Rattle.fr_bus.specs.Windows.{cycles_begun}
use Rattle.fr_runs.specs.declared.fault_line.FaultLine.{FaultLine}
use Rattle.fr_runs.specs.Faulted.{is_muted}
use Rattle.fr_runs.specs.Striking.{strikes}
use Rattle.fr_slots.specs.Admission.{is_channel}
use Rattle.fr_slots.specs.declared.channel.Channel.{Channel}

-- ---- the effect of a fault on a transmission

-- the node sent it on the channel
abbrev pub is_sent_by : ℕ → Channel → Sent → Bool
is_sent_by node channel t = is_of node t && is_channel t.channel channel

-- the transmission is a babble of the fault, or an offer that the fault muted
abbrev pub brings : Sent → Fault → Bool
brings t (Babble node channel bytes) = t.babble && is_sent_by node channel t
brings t (Mute node channel) = is_muted t.fate && is_sent_by node channel t
brings t (Corrupt channel bit) = false

-- the fault flips a bit on the channel
abbrev pub turns : Channel → Fault → Bool
turns channel (Babble node on bytes) = false
turns channel (Mute node on) = false
turns channel (Corrupt on bit) = is_channel on channel

-- the bit that is to be flipped is in one of these bytes
abbrev pub is_turned : Option ℕ → List ℕ → Bool
is_turned None bytes = false
is_turned (Some bit) bytes = nat_lt (bit / 8) (length bytes)

-- A bit of the transmission was flipped: it alone passed on its channel, and the bit is in its bytes. It may be too
-- long for its slot.
abbrev pub is_flipped : Recorded → Sent → Bool
is_flipped r t = passed_on t.channel t && nat_le (count_by (passed_on t.channel) r.sent) 1
    && is_turned (corrupt_on r t.channel) t.bytes.items

-- The transmission shows the effect of the fault: a node babbled it, or it was muted, or a bit of it was flipped.
abbrev pub shows : Recorded → Fault → Sent → Bool
shows r fault t = brings t fault || (turns t.channel fault && is_flipped r t)

-- ---- a line in a window, which lies in the cycle of this number of the run

-- the fault of the line occurs there, and a transmission shows it
abbrev pub has_effect_in : FaultLine → ℕ → Recorded → Bool
has_effect_in line cycle r = strikes line cycle r.window && list_any (shows r line.fault) r.sent

-- ---- a record

-- the same in one of these windows, which come after those of `before`
unfoldable pub has_effect_after : FaultLine → List Recorded → List Recorded → Bool
has_effect_after line before [] = false
has_effect_after line before (r ∷ rs) =
    has_effect_in line (cycles_begun (before ++ r ∷ []) - 1) r || has_effect_after line (before ++ r ∷ []) rs

-- the line had an effect in a window of the record
abbrev pub has_effect : List Recorded → FaultLine → Bool
has_effect rs line = has_effect_after line [] rs

-- ---- the lines without effect

-- The numbers of the lines without effect, in the order of the lines, given the numbers of all lines.
unfoldable pub idle_numbers : List Recorded → List FaultLine → List ℕ → List ℕ
idle_numbers rs [] numbers = []
idle_numbers rs (line ∷ lines) [] = []
idle_numbers rs (line ∷ lines) (n ∷ numbers) =
    if has_effect rs line then idle_numbers rs lines numbers else n ∷ idle_numbers rs lines numbers

-- ---- the lines of the text

-- A line of a text may stand for a fault line of each channel. It has an effect if one of the two has.

-- without the numbers that repeat the one before, which is this one for the first
abbrev pub repeats : Option ℕ → ℕ → Bool
repeats None n = false
repeats (Some last) n = last == n

abbrev pub each_once : Option ℕ → List ℕ → List ℕ
each_once last [] = []
each_once last (n ∷ numbers) =
    if repeats last n then each_once (Some n) numbers else n ∷ each_once (Some n) numbers

abbrev pub times : ℕ → List ℕ → ℕ
times n numbers = count_by (λ m. m == n) numbers

-- each fault line of this number is among the idle ones
abbrev pub is_wholly_idle : List ℕ → List ℕ → ℕ → Bool
is_wholly_idle numbers idle n = times n idle == times n numbers

-- the numbers of all fault lines, then of those without effect
abbrev pub wholly_idle : List ℕ → List ℕ → List ℕ
wholly_idle numbers idle = filter (is_wholly_idle numbers idle) (each_once None idle)

-- the lines of a text without effect, of the record of a run with their fault lines
abbrev pub idle_lines : List Recorded → List FaultLine → List ℕ → List ℕ
idle_lines rs lines numbers = wholly_idle numbers (idle_numbers rs lines numbers)
