-- The record of a frame in a capture: the packet that `fr_capture` writes of the bytes on the channel
-- (project-defined).
use Rattle.std.specs.Prelude.{ℤ, length, Option, None}
use Rattle.fr_capture.specs.Pcap.{packet, link_type}
use Rattle.fr_frame.specs.Encoding.{encoded}
use Rattle.fr_frame.specs.Fields.{Fields, IsFrame}
use Rattle.fr_hearing.specs.Alarms.{Spells}
use Rattle.fr_recording.specs.Records.{Record}
use Rattle.fr_slots.specs.declared.channel.Channel.{Channel}

-- the record of the bytes in which the frame is sent
abbrev pub record_of : Option ℤ → Channel → Fields → Record
record_of time channel f = record {
  time = time;
  link = link_type;
  original = length (packet channel None (encoded f channel));
  bytes = packet channel None (encoded f channel);
}

-- The record of a frame that was sent spells this frame.
abbrev pub ReadsBack : Type 0
ReadsBack = (time : Option ℤ) (channel : Channel) (f : Fields) → IsFrame f → Spells channel (record_of time channel f) f
