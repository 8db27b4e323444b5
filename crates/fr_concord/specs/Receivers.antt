-- The receivers of a frame in `commits` and in tables, against the buffers and receive FIFOs of journals
-- (project-defined).
use Rattle.std.specs.Prelude.{◌≡◌, ◌↔◌, ℕ, true, List, [], ◌∷◌, ◌++◌, length, map, Some, None, if◌then◌else◌}
use Rattle.fr_bus.specs.Record.{Recorded, seen_by}
use Rattle.fr_capture.specs.declared.takers.Taker.{Taker}
use Rattle.fr_capture.specs.Takers.{takers_of}
use Rattle.fr_capture.specs.Taking.{buffer_takes, queue_takes}
use Rattle.fr_journal.specs.Arrivals.{queue_arrival_on}
use Rattle.fr_journal.specs.declared.entry.Arrival.{Arrival}
use Rattle.fr_journal.specs.declared.entry.Entry.TheVariants.{Observe}
use Rattle.fr_journal.specs.declared.entry.Moment.{Moment}
use Rattle.fr_journal.specs.Forms.{Entry}
use Rattle.fr_journal.specs.Held.{arrival_at, held}
use Rattle.fr_journal.specs.OpenWindow.{open_window}
use Rattle.fr_showing.specs.Takers.{takers_at}
use Rattle.fr_slots.specs.declared.channel.Channel.{Channel}
use Rattle.fr_slots.specs.declared.channel.Channel.TheVariants.{A, B}
use Rattle.fr_slots.specs.declared.plan.Buffer.{Buffer}
use Rattle.fr_slots.specs.declared.plan.Queue.{Queue}
use Rattle.fr_slots.specs.Parameters.{Parameters}
use Rattle.fr_slots.specs.Plans.{Plan, is_receive}
use Rattle.fr_slots.specs.Windows.{Opportunity}
use Rattle.fr_status.specs.Forms.{Seen}

-- ---- receive buffers

-- the observation after these entries brings the buffer a frame of the channel, which is then its content
pub record IsStored (p : Parameters) (b : Buffer) (before : List Entry) (e : Entry) (channel : Channel) : Type 0 where
  pub arrival : Arrival
  pub arrives : arrival_at p b.filter before e ≡ Some arrival
  pub held_after : held p b.filter (before ++ e ∷ []) ≡ Some arrival
  pub channel_is : arrival.origin.channel ≡ channel

-- a table names exactly the receive buffers that stored the frame of the channel
abbrev pub AreBuffersStored : Type 0
AreBuffersStored = (p : Parameters) (b : Buffer) (before : List Entry) (w : Opportunity) (number : ℕ) (on_a on_b : Seen)
    (channel : Channel) → is_receive b.mode ≡ true → open_window before ≡ Some w
    → (buffer_takes p w on_a on_b channel b ≡ true) ↔ IsStored p b before (Observe number on_a on_b) channel

-- ---- the receive FIFO

-- a table names the receive FIFO exactly if the observation on the channel brings it a frame
abbrev pub AreQueuesFilled : Type 0
AreQueuesFilled = (p : Parameters) (plan : Plan) (q : Queue) (moment : Moment) (w : Opportunity) (channel : Channel)
    (seen : Seen) → length (queue_arrival_on p plan q moment w channel seen)
    ≡ (if queue_takes p plan w channel seen (Some q) then 1 else 0)

-- ---- commits

-- a receiver, as one of this node
abbrev pub of_node : ℕ → Taker → Taker
of_node node t = record { node = Some node; buffer = t.buffer }

-- `commits` names the receivers that the table of each node has for its observation of the window, with the node
abbrev pub AreReceiversSame : Type 0
AreReceiversSame = (p : Parameters) (plan : Plan) (r : Recorded) (channel : Channel) (node : ℕ)
    → takers_at p plan r channel node
    ≡ map (of_node node) (takers_of p plan r.window (seen_by p r A node) (seen_by p r B node) channel None)
