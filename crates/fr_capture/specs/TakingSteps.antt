-- A frame is stored, by the presence of data frames and not by their content. The proofs show that this agrees with
-- `Taking`.
use Rattle.std.specs.Prelude.{Bool, false, ◌&&◌, Option, Some, None, if◌then◌else◌}
use Rattle.fr_journal.specs.Arrivals.{is_for_queue}
use Rattle.fr_slots.specs.declared.channel.Channel.{Channel}
use Rattle.fr_slots.specs.declared.channel.Channel.TheVariants.{A, B}
use Rattle.fr_slots.specs.declared.plan.Buffer.{Buffer}
use Rattle.fr_slots.specs.declared.plan.Queue.{Queue}
use Rattle.fr_slots.specs.Plans.{admits_window, is_receive, Plan}
use Rattle.fr_slots.specs.Windows.{Opportunity}

-- a receive buffer stores the frame of the channel, if a data frame came on A or not, and on B or not
abbrev pub takes_by : Opportunity → Bool → Bool → Channel → Buffer → Bool
takes_by w a b A line = is_receive line.mode && (a && admits_window line.filter w A)
takes_by w a b B line =
    is_receive line.mode
    && (if a && admits_window line.filter w A then false else b && admits_window line.filter w B)

abbrev pub came_in : Bool → Bool → Channel → Bool
came_in a b A = a
came_in a b B = b

abbrev pub queue_takes_by : Plan → Opportunity → Bool → Bool → Channel → Option Queue → Bool
queue_takes_by plan w a b channel None = false
queue_takes_by plan w a b channel (Some q) = is_for_queue plan q w channel && came_in a b channel
