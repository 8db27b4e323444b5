-- One flipped bit of a transmission (project-defined).
use Rattle.std.specs.Prelude.{ℕ, ◌-◌, ◌/◌, ◌%◌, ◌^◌, nat_lt, List, length, Option, Some, None, bit_xor, slice_index}
use Rattle.std.specs.Prelude.{slice_set, if◌then◌else◌}
use Rattle.arrayvec.specs.ArrayVec.{ArrayVec}

-- the bits of a byte are counted from its most significant one
abbrev pub turned : ℕ → ℕ → ℕ
turned byte bit = bit_xor byte (2 ^ (7 - bit))

-- the bytes with one bit flipped, counted from the most significant bit of the first byte; a bit after the last byte
-- has no effect
abbrev pub with_bit_turned : List ℕ → ℕ → List ℕ
with_bit_turned bytes bit =
    if nat_lt (bit / 8) (length bytes) then slice_set bytes (bit / 8) (turned (slice_index bytes (bit / 8)) (bit % 8))
    else bytes

abbrev pub corrupted : ArrayVec ℕ → Option ℕ → ArrayVec ℕ
corrupted bytes None = bytes
corrupted bytes (Some bit) = record { items = with_bit_turned bytes.items bit }
