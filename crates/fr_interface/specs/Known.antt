-- The data that an interface keeps beside its journal, and their values by a journal.
use Rattle.std.specs.Prelude.{ℕ, ◌+◌, zero, suc, List, [], ◌∷◌, Option, Some, None, if◌then◌else◌, option_map}
use Rattle.std.specs.Option.{option_or}
use Rattle.fr_buffers.specs.declared.transmit.HeldCommit.{HeldCommit}
use Rattle.fr_buffers.specs.Transmitting.{Transmitter}
use Rattle.fr_buffers.specs.Waiting.{Waiting, with_frame}
use Rattle.fr_frame.specs.Fields.{Fields}
use Rattle.fr_interface.specs.declared.opening.Opening.{Opening}
use Rattle.fr_journal.specs.Arrivals.{moves, queue_content, queue_lost, is_for_queue}
use Rattle.fr_journal.specs.declared.entry.Arrival.{Arrival}
use Rattle.fr_journal.specs.declared.entry.Moment.{Moment}
use Rattle.fr_journal.specs.Forms.{Entry}
use Rattle.fr_journal.specs.Fate.{held_commit, tally_of}
use Rattle.fr_journal.specs.Held.{held, arrival_of}
use Rattle.fr_journal.specs.Offers.{payload_of}
use Rattle.fr_journal.specs.OpenWindow.{open_window, last_number}
use Rattle.fr_slots.specs.declared.channel.Channel.{Channel}
use Rattle.fr_slots.specs.declared.channel.Channel.TheVariants.{A, B}
use Rattle.fr_slots.specs.declared.plan.Buffer.{Buffer}
use Rattle.fr_slots.specs.declared.plan.Mode.{Mode}
use Rattle.fr_slots.specs.declared.plan.Queue.{Queue}
use Rattle.fr_slots.specs.Parameters.{Parameters}
use Rattle.fr_slots.specs.Plans.{Plan, is_receive, admits_window}
use Rattle.fr_slots.specs.Windows.{Opportunity}
use Rattle.fr_status.specs.Counting.{with_status}
use Rattle.fr_status.specs.declared.counters.Counters.{Counters}
use Rattle.fr_status.specs.declared.status.SlotStatus.{SlotStatus}

-- ---- windows

abbrev pub opening_of : List Entry → Opening
opening_of entries = record { window = open_window entries; last = last_number entries }

-- ---- transmit buffers

abbrev pub commit_of : List Entry → ℕ → HeldCommit
commit_of entries entry = record { entry = entry; payload = payload_of entries entry }

-- the transmit buffer of this number and mode, by a journal
abbrev pub transmitter_of : List Entry → ℕ → Mode → Transmitter
transmitter_of entries number mode =
    record {
      mode = mode;
      last = option_map (commit_of entries) (held_commit number entries);
      tally = tally_of number entries;
    }

-- one for each buffer; the first has this number
abbrev pub each_buffer : (ℕ → Mode → Transmitter) → ℕ → List Buffer → List Transmitter
each_buffer f number [] = []
each_buffer f number (b ∷ buffers) = f number b.mode ∷ each_buffer f (number + 1) buffers

abbrev pub transmitters : Plan → List Entry → List Transmitter
transmitters plan entries = each_buffer (transmitter_of entries) 0 plan.buffers

-- the element at a place changed, if there is one
abbrev pub change_at : {X : Type 0} → (X → X) → List X → ℕ → List X
change_at f [] place = []
change_at f (x ∷ xs) zero = f x ∷ xs
change_at f (x ∷ xs) (suc place) = x ∷ change_at f xs place

-- ---- receive buffers

-- the content of a receive buffer, by a journal
abbrev pub held_in : Parameters → List Entry → Buffer → Option Arrival
held_in params entries b = if is_receive b.mode then held params b.filter entries else None

abbrev pub frame_on : Moment → Opportunity → Channel → Option Fields → Buffer → Option Arrival
frame_on moment window channel frame b = if admits_window b.filter window channel
    then option_map (arrival_of moment channel) frame else None

-- the frame that a receive buffer stores of these data frames, if any: A's before B's
abbrev pub taken_by : Moment → Opportunity → Option Fields → Option Fields → Buffer → Option Arrival
taken_by moment window a b buffer = if is_receive buffer.mode
    then option_or (frame_on moment window A a buffer) (frame_on moment window B b buffer) else None

abbrev pub stored_all : Moment → Opportunity → Option Fields → Option Fields → List Buffer → List (Option Arrival)
    → List (Option Arrival)
stored_all moment window a b [] held = held
stored_all moment window a b (line ∷ lines) [] = []
stored_all moment window a b (line ∷ lines) (h ∷ held) =
    option_or (taken_by moment window a b line) h ∷ stored_all moment window a b lines held

-- ---- the receive FIFO

-- a receive FIFO, by a journal
abbrev pub waiting_of : Parameters → Plan → List Entry → Queue → Waiting
waiting_of params plan entries q =
    record {
      capacity = q.capacity;
      frames = queue_content q.capacity (moves params plan q entries);
      lost = queue_lost params plan q entries;
    }

abbrev pub queued_on : Plan → Queue → Moment → Opportunity → Channel → Option Fields → Option Arrival
queued_on plan q moment window channel frame = if is_for_queue plan q window channel
    then option_map (arrival_of moment channel) frame else None

abbrev pub with_arrival : Waiting → Option Arrival → Waiting
with_arrival w None = w
with_arrival w (Some a) = with_frame w a

-- a receive FIFO after a window with these data frames, if any: A's before B's
abbrev pub with_arrivals : Plan → Moment → Opportunity → Option Fields → Option Fields → Option Queue → Option Waiting
    → Option Waiting
with_arrivals plan moment window a b None waiting = waiting
with_arrivals plan moment window a b (Some q) waiting =
    option_map (λ w. with_arrival (with_arrival w (queued_on plan q moment window A a))
    (queued_on plan q moment window B b)) waiting

abbrev pub empty_queue : Queue → Waiting
empty_queue q = record { capacity = q.capacity; frames = []; lost = 0 }

-- ---- the counters

-- with the status of a slot, if there is one
abbrev pub with_seen : Counters → Channel → Option SlotStatus → Counters
with_seen c channel None = c
with_seen c channel (Some s) = with_status c channel s
