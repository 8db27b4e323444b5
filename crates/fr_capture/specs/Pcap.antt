-- The classic capture format: a file header, and then the records of the observations (project-defined). Numbers are
-- spelled with their lowest byte first.
use Rattle.std.specs.Prelude.{ℕ, ◌-◌, ◌/◌, ◌%◌, Bool, List, [], ◌∷◌, ◌++◌, length, take, Option, Some, None}
use Rattle.std.specs.Prelude.{if◌then◌else◌}
use Rattle.arrayvec.specs.ArrayVec.{ArrayVec}
use Rattle.std.specs.Int.{bytes_low_first}
use Rattle.fr_frame.specs.declared.decode.DecodeError.{DecodeError}
use Rattle.fr_frame.specs.declared.decode.DecodeError.TheVariants.{TooShort, LengthMismatch, HeaderCrc, FrameCrc}
use Rattle.fr_frame.specs.Refusal.{refusal}
use Rattle.fr_slots.specs.declared.channel.Channel.{Channel}
use Rattle.fr_slots.specs.declared.channel.Channel.TheVariants.{A, B}
use Rattle.fr_capture.specs.Sightings.{Sighting}
use Rattle.fr_status.specs.Forms.{Seen}
use Rattle.fr_status.specs.declared.seen.Seen.TheVariants.{Silence, Own, Conflict, Noise, Overrun, Bytes}

-- a number of two bytes, and one of four
abbrev pub short_number : ℕ → List ℕ
short_number n = bytes_low_first 0 2 n

abbrev pub long_number : ℕ → List ℕ
long_number n = bytes_low_first 0 4 n

-- ---- the file header

-- the mark of a capture whose times are in microseconds
abbrev pub magic : ℕ
magic = 0xA1B2C3D4

-- the number of FlexRay among the link types
abbrev pub link_type : ℕ
link_type = 210

-- the length of the longest record: two bytes of measurement header, and the bytes of the longest frame
abbrev pub longest_record : ℕ
longest_record = 264

-- the mark, version 2.4, no time zone offset, no accuracy, the length of the longest record, the link type
abbrev pub file_header : List ℕ
file_header =
    long_number magic ++ short_number 2 ++ short_number 4 ++ long_number 0 ++ long_number 0
    ++ long_number longest_record ++ long_number link_type

-- ---- a record

-- the first byte of the measurement header: its highest bit is set on channel B, and the others mark a frame
abbrev pub channel_mark : Channel → ℕ
channel_mark A = 0x01
channel_mark B = 0x81

-- The second byte: the reason why the bytes are no frame, if they are none. A frame whose end isn't at the place that
-- its header gives, and bytes that are too few for a frame, have a wrong end.
abbrev pub error_flags : Option DecodeError → ℕ
error_flags None = 0
error_flags (Some FrameCrc) = 0x10
error_flags (Some HeaderCrc) = 0x08
error_flags (Some LengthMismatch) = 0x04
error_flags (Some TooShort) = 0x04

-- Header and payload, without the three bytes of the trailer; all bytes if it isn't known which bytes are the trailer.
abbrev pub captured_bytes : Option DecodeError → List ℕ → List ℕ
captured_bytes (Some LengthMismatch) bytes = bytes
captured_bytes (Some TooShort) bytes = bytes
captured_bytes error bytes = take (length bytes - 3) bytes

-- the measurement header and the bytes
abbrev pub packet : Channel → Option DecodeError → List ℕ → List ℕ
packet channel error bytes = channel_mark channel ∷ error_flags error ∷ captured_bytes error bytes

-- seconds and microseconds, the number of captured bytes, and the number of bytes on the channel
unfoldable pub record_header : ℕ → ℕ → List ℕ
record_header time count =
    long_number (time / 1000000) ++ long_number (time % 1000000) ++ long_number count ++ long_number count

abbrev pub record_with : ℕ → Channel → Option DecodeError → List ℕ → List ℕ
record_with time channel error bytes = record_header time (length (packet channel error bytes))
    ++ packet channel error bytes

-- the controller's own frame, if its fetch handed one to the bus
abbrev pub own_record : ℕ → Channel → Option (ArrayVec ℕ) → List ℕ
own_record time channel None = []
own_record time channel (Some bytes) = record_with time channel (refusal channel bytes.items) bytes.items

-- Received bytes have a record. With `own`, a frame of the controller that was alone on the channel has one too.
-- Observations without bytes have none, and neither has a conflict, whose bytes are unknown.
abbrev pub record_seen : Bool → ℕ → Channel → Seen → Option (ArrayVec ℕ) → List ℕ
record_seen own time channel Silence handed = []
record_seen own time channel Own handed = if own then own_record time channel handed else []
record_seen own time channel Conflict handed = []
record_seen own time channel Noise handed = []
record_seen own time channel Overrun handed = []
record_seen own time channel (Bytes bytes) handed =
    record_with time channel (refusal channel bytes.items) bytes.items

abbrev pub record_of : Bool → Sighting → List ℕ
record_of own s = record_seen own s.time s.channel s.seen s.handed
