-- A receive buffer or a receive FIFO stores a frame that its node observed (chapter 9; the receive FIFO, and channel A
-- before B, are project-defined).
use Rattle.std.specs.Prelude.{Bool, false, ◌&&◌, [], Option, Some, None, is_some}
use Rattle.fr_journal.specs.Arrivals.{is_for_queue}
use Rattle.fr_journal.specs.Cycles.{moment_after}
use Rattle.fr_journal.specs.declared.entry.Arrival.{Arrival}
use Rattle.fr_journal.specs.Held.{arrival_in, data_frame_seen}
use Rattle.fr_slots.specs.Admission.{is_channel}
use Rattle.fr_slots.specs.declared.channel.Channel.{Channel}
use Rattle.fr_slots.specs.declared.plan.Buffer.{Buffer}
use Rattle.fr_slots.specs.declared.plan.Queue.{Queue}
use Rattle.fr_slots.specs.Parameters.{Parameters}
use Rattle.fr_slots.specs.Plans.{Plan, is_receive}
use Rattle.fr_slots.specs.Windows.{Opportunity}
use Rattle.fr_status.specs.Forms.{Seen}

abbrev pub is_from : Channel → Option Arrival → Bool
is_from channel None = false
is_from channel (Some arrival) = is_channel arrival.origin.channel channel

-- The buffer stores the frame that was observed on the channel: it is the frame that the window brings to the buffer,
-- at each moment.
abbrev pub buffer_takes : Parameters → Opportunity → Seen → Seen → Channel → Buffer → Bool
buffer_takes p w a b channel line =
    is_receive line.mode && is_from channel (arrival_in p line.filter (moment_after []) a b w)

abbrev pub queue_takes : Parameters → Plan → Opportunity → Channel → Seen → Option Queue → Bool
queue_takes p plan w channel seen None = false
queue_takes p plan w channel seen (Some q) =
    is_for_queue plan q w channel && is_some (data_frame_seen p w channel seen)
