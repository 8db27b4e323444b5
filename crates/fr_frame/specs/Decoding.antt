-- The frame that bytes spell, as a function of the bytes.
use Rattle.std.specs.Prelude.{ℕ, ◌-◌, List, length, take, drop, Option, Some, None, if◌then◌else◌}
use Rattle.std.specs.Option.{is_some}
use Rattle.fr_slots.specs.declared.channel.Channel.{Channel}
use Rattle.fr_frame.specs.Fields.{Fields}
use Rattle.fr_frame.specs.Header.{number_at, flag_at}
use Rattle.fr_frame.specs.Refusal.{refusal}

-- the bytes between the five of the header and the three of the trailer
abbrev pub payload_of : List ℕ → List ℕ
payload_of bytes = take (length bytes - 8) (drop 5 bytes)

-- the fields of the header, and the payload
abbrev pub fields_of : List ℕ → Fields
fields_of bytes = record {
  preamble = flag_at 1 bytes;
  has_data = flag_at 2 bytes;
  sync = flag_at 3 bytes;
  startup = flag_at 4 bytes;
  id = number_at 5 11 bytes;
  payload = payload_of bytes;
  cycle = number_at 34 6 bytes;
}

-- The frame that the bytes spell on the channel, if they spell one. It is the one frame that `Spells` relates them to
-- (proofs/DecodingLemmas).
unfoldable pub decoded : Channel → List ℕ → Option Fields
decoded channel bytes = if is_some (refusal channel bytes) then None else Some (fields_of bytes)
