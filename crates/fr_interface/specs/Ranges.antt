-- For each slot a range of places that holds all lines of the slot. The code reads only the lines of the range; the
-- result is defined by the whole list.
use Rattle.std.specs.Prelude.{◌≡◌, ℕ, ◌+◌, ◌<◌, ◌≤◌, ◌==◌, true, List, length, map, slice_get, Option, Some, is_some}
use Rattle.std.specs.Prelude.{if◌then◌else◌, min, max}
use Rattle.fr_frame.specs.Fields.{Fields}
use Rattle.fr_interface.specs.declared.index.LineRange.{LineRange}
use Rattle.fr_interface.specs.Known.{frame_on}
use Rattle.fr_journal.specs.declared.entry.Moment.{Moment}
use Rattle.fr_slots.specs.declared.channel.Channel.{Channel}
use Rattle.fr_slots.specs.declared.plan.Buffer.{Buffer}
use Rattle.fr_slots.specs.declared.plan.Own.{Own}
use Rattle.fr_slots.specs.Faults.{transmits}
use Rattle.fr_slots.specs.Numbers.{last_slot}
use Rattle.fr_slots.specs.Windows.{Opportunity}

-- the number of slot numbers, with 0
abbrev pub slot_count : ℕ
slot_count = last_slot + 1

-- the slots of the lines of a plan
abbrev pub buffer_slots : List Buffer → List ℕ
buffer_slots buffers = map (λ b. b.filter.slot) buffers

-- the slot of a transmit buffer, and 0, which is no slot, for a receive buffer
abbrev pub sending_slot : Buffer → ℕ
sending_slot b = if transmits b then b.filter.slot else 0

abbrev pub sending_slots : List Buffer → List ℕ
sending_slots buffers = map sending_slot buffers

abbrev pub own_slots : List Own → List ℕ
own_slots owned = map (λ o. o.slot) owned

abbrev pub IsWithin : ℕ → LineRange → Type 0
IsWithin place range = (range.first ≤ place) × (place < range.end)

-- the slot is at no place outside the range
pub record IsRangeOf (slot : ℕ) (slots : List ℕ) (range : LineRange) : Type 0 where
  pub ordered : range.first ≤ range.end
  pub ends : range.end ≤ length slots
  pub covers : (place : ℕ) → slice_get slots place ≡ Some slot → IsWithin place range

-- one such range for each slot
pub record AreRanges (slots : List ℕ) (ranges : List LineRange) : Type 0 where
  pub all : length ranges ≡ slot_count
  pub each : (slot : ℕ) (range : LineRange) → slice_get ranges slot ≡ Some range → IsRangeOf slot slots range

-- the range up to and with a later place
abbrev pub widened : LineRange → ℕ → LineRange
widened range place = record { first = if range.first == range.end then place else range.first; end = place + 1 }

-- both ranges, with the places between them
abbrev pub joined : LineRange → LineRange → LineRange
joined one other =
    if one.first == one.end then other
    else if other.first == other.end then one
    else record { first = min one.first other.first; end = max one.end other.end }

-- no buffer outside the range stores this data frame, if there is one, of the window on the channel
pub record IsTakingRange (buffers : List Buffer) (window : Opportunity) (channel : Channel) (frame : Option Fields)
    (range : LineRange) : Type 0 where
  pub ordered : range.first ≤ range.end
  pub ends : range.end ≤ length buffers
  pub covers : (moment : Moment) (place : ℕ) (b : Buffer) → slice_get buffers place ≡ Some b
      → is_some (frame_on moment window channel frame b) ≡ true → IsWithin place range
