-- The end of a transmission (project-defined).
use Rattle.std.specs.Prelude.{ℕ, nat_lt, List, codes, length, count_by, Option, Some, None, option_map, if◌then◌else◌}
use Rattle.std.specs.List.{find}
use Rattle.fr_bus.specs.declared.outcome.SentFate.{SentFate}
use Rattle.fr_bus.specs.declared.outcome.SentFate.TheVariants as fate
use Rattle.fr_bus.specs.declared.outcome.Sent.{Sent}
use Rattle.fr_bus.specs.Outcome.{overruns, passed_on}
use Rattle.fr_bus.specs.Record.{Recorded, corrupt_on, is_offer_of}
use Rattle.fr_lines.specs.Parts.{absent}
use Rattle.fr_runs.specs.Effects.{is_turned}
use Rattle.fr_showing.specs.declared.ends.End.{End}
use Rattle.fr_showing.specs.declared.ends.End.TheVariants.{Alone, Turned, Overrun, Collided, Muted, Blocked}
use Rattle.fr_slots.specs.declared.channel.Channel.{Channel}
use Rattle.fr_slots.specs.Parameters.{Parameters}

-- it was too long, or one of its bits was flipped, or neither
abbrev pub end_alone : Parameters → Recorded → Sent → End
end_alone p r t =
    if overruns p r.window (length t.bytes.items) then Overrun
    else if is_turned (corrupt_on r t.channel) t.bytes.items then Turned
    else Alone

-- others passed on its channel too, or none did
abbrev pub end_passed : Parameters → Recorded → Sent → End
end_passed p r t = if nat_lt 1 (count_by (passed_on t.channel) r.sent) then Collided else end_alone p r t

abbrev pub end_by : SentFate → Parameters → Recorded → Sent → End
end_by fate.Passed p r t = end_passed p r t
end_by fate.Blocked p r t = Blocked
end_by fate.Muted p r t = Muted

-- a transmission of a recorded window
abbrev pub end_of : Parameters → Recorded → Sent → End
end_of p r t = end_by t.fate p r t

-- the end of the node's offer on the channel, if there was one in the window, and the record has the window
abbrev pub offer_end : Parameters → Option Recorded → Channel → ℕ → Option End
offer_end p None channel node = None
offer_end p (Some r) channel node = option_map (end_of p r) (find (is_offer_of channel node) r.sent)

abbrev pub end_word : End → List ℕ
end_word Alone = codes "alone"
end_word Turned = codes "turned"
end_word Overrun = codes "overrun"
end_word Collided = codes "collided"
end_word Muted = codes "muted"
end_word Blocked = codes "blocked"

abbrev pub ended_word : Option End → List ℕ
ended_word None = absent
ended_word (Some end) = end_word end
