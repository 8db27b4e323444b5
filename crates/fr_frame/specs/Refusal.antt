-- The refusals of a decoder, in the order of its tests.
use Rattle.std.specs.Prelude.{ℕ, ◌+◌, ◌-◌, ◌*◌, ◌==◌, nat_lt, not, List, length, take, drop, Option, Some, None}
use Rattle.std.specs.Prelude.{if◌then◌else◌}
use Rattle.fr_slots.specs.declared.channel.Channel.{Channel}
use Rattle.fr_frame.specs.declared.decode.DecodeError.{DecodeError}
use Rattle.fr_frame.specs.declared.decode.DecodeError.TheVariants.{TooShort, LengthMismatch, HeaderCrc, FrameCrc}
use Rattle.fr_frame.specs.Bits.{bits_of_bytes, number_of}
use Rattle.fr_frame.specs.Crc.{header_check, frame_check}
use Rattle.fr_frame.specs.Header.{bits_at, number_at}

-- The reason to refuse these bytes as a frame on the channel, if there is one:
-- - fewer than the 8 bytes of header and trailer;
-- - a number of bytes that differs from these 8 and the payload length in the header;
-- - a header CRC that differs from that of the covered bits;
-- - a frame CRC that differs from that of the bytes before it.
abbrev pub refusal : Channel → List ℕ → Option DecodeError
refusal channel bytes =
    if nat_lt (length bytes) 8 then Some TooShort
    else if not (length bytes == 8 + 2 * number_at 16 7 bytes) then Some LengthMismatch
    else if not (number_at 23 11 bytes == number_of (header_check (bits_at 3 20 bytes))) then Some HeaderCrc
    else if not (number_of (bits_of_bytes (drop (length bytes - 3) bytes)) == number_of
    (frame_check channel (take (length bytes - 3) bytes))) then Some FrameCrc
    else None
