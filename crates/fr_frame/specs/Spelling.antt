-- The spelling of a frame on a channel (chapter 4).
use Rattle.std.specs.Prelude.{◌≡◌, ℕ, ◌/◌, ◌^◌, ◌<◌, Bool, false, List, [], ◌∷◌, ◌++◌, length}
use Rattle.fr_slots.specs.declared.channel.Channel.{Channel}
use Rattle.fr_frame.specs.Bits.{bits_of, bits_of_bytes}
use Rattle.fr_frame.specs.Crc.{header_check, frame_check}
use Rattle.fr_frame.specs.Fields.{Fields}
use Rattle.fr_frame.specs.Payload.{IsPayload}
use Rattle.fr_slots.specs.Numbers.{cycle_count}

-- the 20 bits that the header CRC covers: sync, startup, frame ID, and the payload length in two-byte words
unfoldable pub covered : Fields → List Bool
covered f = f.sync ∷ f.startup ∷ bits_of 11 f.id ++ bits_of 7 (length f.payload / 2)

-- The 40 bits of a header, in order: the reserved bit, the payload preamble indicator, the null frame indicator (1 for
-- a data frame), the covered bits, the header CRC, and the cycle count.
unfoldable pub header : Bool → Fields → List Bool
header reserved f = (reserved ∷ f.preamble ∷ f.has_data ∷ []) ++ covered f ++ header_check (covered f)
    ++ bits_of 6 f.cycle

-- The bytes spell the frame on the channel: five bytes of header, the payload, and three bytes of frame CRC, which
-- covers all the bytes before it. The reserved bit is free.
pub record Spells (f : Fields) (channel : Channel) (bytes : List ℕ) : Type 0 where
  pub reserved : Bool
  pub first : List ℕ
  pub last : List ℕ
  pub first_len : length first ≡ 5
  pub last_len : length last ≡ 3
  pub parts : bytes ≡ first ++ f.payload ++ last
  pub header_is : bits_of_bytes first ≡ header reserved f
  pub check_is : bits_of_bytes last ≡ frame_check channel (first ++ f.payload)
  pub id_fits : f.id < 2 ^ 11
  pub cycle_fits : f.cycle < cycle_count
  pub payload_fits : IsPayload f.payload

-- The bytes spell the frame as a sender does: the reserved bit is 0.
pub record SpellsCanonically (f : Fields) (channel : Channel) (bytes : List ℕ) : Type 0 where
  pub spelled : Spells f channel bytes
  pub reserved_is : spelled.reserved ≡ false
