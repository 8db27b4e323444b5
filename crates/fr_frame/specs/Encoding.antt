-- The bytes in which a frame is sent, as a function of its fields.
use Rattle.std.specs.Prelude.{ℕ, false, List, ◌++◌}
use Rattle.std.specs.Int.{bytes_high_first}
use Rattle.fr_slots.specs.declared.channel.Channel.{Channel}
use Rattle.fr_frame.specs.Bits.{number_of}
use Rattle.fr_frame.specs.Crc.{frame_check}
use Rattle.fr_frame.specs.Fields.{Fields}
use Rattle.fr_frame.specs.Spelling.{header}

-- the bytes that the frame CRC covers: five bytes of header, with the reserved bit 0, and the payload
abbrev pub checked_bytes : Fields → List ℕ
checked_bytes f = bytes_high_first 5 (number_of (header false f)) ++ f.payload

-- The canonical spelling of a frame on a channel: `SpellsCanonically` relates it to the frame, and `decoded` gives the
-- frame back (proofs/EncodingLemmas).
unfoldable pub encoded : Fields → Channel → List ℕ
encoded f channel = checked_bytes f ++ bytes_high_first 3 (number_of (frame_check channel (checked_bytes f)))
