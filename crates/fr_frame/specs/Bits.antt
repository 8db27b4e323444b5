-- Numbers and bytes as lists of bits, the most significant bit first: the order in which they are sent (chapter 4).
use Rattle.std.specs.Prelude.{ℕ, ◌+◌, ◌^◌, ◌==◌, zero, suc, Bool, List, [], ◌∷◌, length, if◌then◌else◌}
use Rattle.std.specs.List.{flat_map}
use Rattle.std.specs.Int.{bit_at}

-- the lowest `width` bits of a number
unfoldable pub bits_of : ℕ → ℕ → List Bool
bits_of zero n = []
bits_of (suc width) n = (bit_at n width == 1) ∷ bits_of width n

-- the number that these bits spell
unfoldable pub number_of : List Bool → ℕ
number_of [] = 0
number_of (bit ∷ bits) = (if bit then 2 ^ length bits else 0) + number_of bits

-- the eight bits of each byte, one byte after another
abbrev pub bits_of_bytes : List ℕ → List Bool
bits_of_bytes bytes = flat_map (bits_of 8) bytes
