-- The content of a receive buffer: the last valid data frame that it admitted (chapter 9; channel A before B is
-- project-defined).
use Rattle.std.specs.Prelude.{◌≡◌, true, List, [], Option, Some, None, if◌then◌else◌, option_map, take}
use Rattle.std.specs.Prelude.{slice_get}
use Rattle.std.specs.Option.{option_and_then, option_or}
use Rattle.fr_frame.specs.Fields.{Fields}
use Rattle.fr_journal.specs.Counts.{seen_on}
use Rattle.fr_journal.specs.Cycles.{moment_after}
use Rattle.fr_journal.specs.declared.entry.Arrival.{Arrival}
use Rattle.fr_journal.specs.declared.entry.Moment.{Moment}
use Rattle.fr_journal.specs.Forms.{Entry}
use Rattle.fr_journal.specs.declared.entry.Entry.TheVariants.{Commit, Withdraw, Read, Pop, Fetch, Observe}
use Rattle.fr_journal.specs.declared.entry.Origin.{Origin}
use Rattle.fr_slots.specs.Plans.{admits_window}
use Rattle.fr_journal.specs.OpenWindow.{open_window}
use Rattle.fr_slots.specs.declared.channel.Channel.{Channel}
use Rattle.fr_slots.specs.declared.channel.Channel.TheVariants.{A, B}
use Rattle.fr_slots.specs.declared.filter.Filter.{Filter}
use Rattle.fr_slots.specs.History.{last_after}
use Rattle.fr_slots.specs.Numbers.{IsSlot}
use Rattle.fr_slots.specs.Parameters.{Parameters}
use Rattle.fr_slots.specs.Windows.{Opportunity, slot_of}
use Rattle.fr_status.specs.Forms.{Seen}
use Rattle.fr_status.specs.Status.{frame_in}

-- the frame, unless it is a null frame
abbrev pub with_data : Fields → Option Fields
with_data f = if f.has_data then Some f else None

-- The valid data frame that a node observed on a channel of a window. A channel without a slot has none.
abbrev pub data_frame_seen : Parameters → Opportunity → Channel → Seen → Option Fields
data_frame_seen params window channel seen =
    option_and_then with_data
    (option_and_then (λ slot. frame_in params window.cycle slot channel seen) (slot_of window channel))

abbrev pub arrival_of : Moment → Channel → Fields → Arrival
arrival_of moment channel frame = record {
  origin = record { entry = moment.entry; channel = channel };
  cycle = moment.cycle;
  frame = frame;
}

-- the arrival from the observe of this moment, on a channel, if the filter admits it
abbrev pub arrival_on : Parameters → Filter → Moment → Opportunity → Channel → Seen → Option Arrival
arrival_on params filter moment window channel seen =
    if admits_window filter window channel
    then option_map (arrival_of moment channel) (data_frame_seen params window channel seen) else None

-- the arrival on both channels: A's frame, if A has one, and otherwise B's
abbrev pub arrival_in : Parameters → Filter → Moment → Seen → Seen → Opportunity → Option Arrival
arrival_in params filter moment a b window =
    option_or (arrival_on params filter moment window A a) (arrival_on params filter moment window B b)

-- the arrival from the entry of this moment, if this window is open before it
abbrev pub arrival_by : Parameters → Filter → Moment → Option Opportunity → Entry → Option Arrival
arrival_by params filter moment window (Commit task buffer payload) = None
arrival_by params filter moment window (Withdraw task buffer of) = None
arrival_by params filter moment window (Read task buffer from) = None
arrival_by params filter moment window (Pop task from) = None
arrival_by params filter moment window (Fetch w a b) = None
arrival_by params filter moment window (Observe w a b) = option_and_then (arrival_in params filter moment a b) window

abbrev pub arrival_at : Parameters → Filter → List Entry → Entry → Option Arrival
arrival_at params filter before e = arrival_by params filter (moment_after before) (open_window before) e

-- the content of a receive buffer with this filter, after some entries
abbrev pub held : Parameters → Filter → List Entry → Option Arrival
held params filter entries = last_after (arrival_at params filter) [] entries

abbrev pub origin_of : Arrival → Origin
origin_of arrival = arrival.origin

abbrev pub frame_of : Arrival → Fields
frame_of arrival = arrival.frame

-- a frame that a task can receive: a data frame of a slot
abbrev pub IsReceivable : Fields → Type 0
IsReceivable f = (f.has_data ≡ true) × IsSlot f.id

-- ---- frames by their origin

-- the valid data frame that an entry observed on a channel, if this window is open before it
abbrev pub frame_in_entry : Parameters → Channel → Option Opportunity → Entry → Option Fields
frame_in_entry params channel window (Commit task buffer payload) = None
frame_in_entry params channel window (Withdraw task buffer of) = None
frame_in_entry params channel window (Read task buffer from) = None
frame_in_entry params channel window (Pop task from) = None
frame_in_entry params channel window (Fetch w a b) = None
frame_in_entry params channel window (Observe number a b) =
    option_and_then (λ w. data_frame_seen params w channel (seen_on channel a b)) window

-- the valid data frame of this origin: an entry's number, and a channel
abbrev pub frame_named : Parameters → List Entry → Origin → Option Fields
frame_named params entries origin =
    option_and_then (frame_in_entry params origin.channel (open_window (take origin.entry entries)))
    (slice_get entries origin.entry)
