-- The fields of a header, read from the bits of the first five bytes. The first bit has place 0.
use Rattle.std.specs.Prelude.{ℕ, ◌==◌, Bool, List, take, drop}
use Rattle.fr_frame.specs.Bits.{bits_of_bytes, number_of}

-- so many bits from a place on
abbrev pub bits_at : ℕ → ℕ → List ℕ → List Bool
bits_at place count bytes = take count (drop place (bits_of_bytes (take 5 bytes)))

-- the number that these bits spell
abbrev pub number_at : ℕ → ℕ → List ℕ → ℕ
number_at place count bytes = number_of (bits_at place count bytes)

-- the bit at a place is 1
abbrev pub flag_at : ℕ → List ℕ → Bool
flag_at place bytes = number_at place 1 bytes == 1
