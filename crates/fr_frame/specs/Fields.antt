-- The fields of a frame.
use Rattle.std.specs.Prelude.{ℕ, ◌^◌, ◌<◌, Bool, List}
use Rattle.fr_frame.specs.Payload.{IsPayload}

-- A frame as contracts see it: its indicators, its frame ID, the bytes of its payload and its cycle count.
pub record Fields : Type 0 where
  pub preamble : Bool
  pub has_data : Bool
  pub sync : Bool
  pub startup : Bool
  pub id : ℕ
  pub payload : List ℕ
  pub cycle : ℕ

-- The fields are those of a frame: the frame ID has 11 bits, the cycle count has 6, and the payload is one.
pub record IsFrame (f : Fields) : Type 0 where
  pub id_fits : f.id < 2 ^ 11
  pub cycle_fits : f.cycle < 64
  pub payload_fits : IsPayload f.payload
