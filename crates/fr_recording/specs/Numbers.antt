-- Numbers in a capture file, and limits (project-defined).
use Rattle.std.specs.Prelude.{ℕ, ◌+◌, ◌*◌, ◌/◌, ◌^◌, ◌-◌, min, List, [], ◌∷◌, reverse, take, drop}
use Rattle.fr_recording.specs.declared.numbers.Order.{Order}
use Rattle.fr_recording.specs.declared.numbers.Order.TheVariants.{LowFirst, HighFirst}

-- so many bytes from a place on
abbrev pub part : ℕ → ℕ → List ℕ → List ℕ
part place count bytes = take count (drop place bytes)

-- the number whose lowest byte comes first
abbrev pub low_first : List ℕ → ℕ
low_first [] = 0
low_first (b ∷ bytes) = b + 256 * low_first bytes

-- the number that the bytes spell in this order
abbrev pub number : Order → List ℕ → ℕ
number LowFirst bytes = low_first bytes
number HighFirst bytes = low_first (reverse bytes)

-- the number of two, of four or of eight bytes at a place
abbrev pub short : Order → ℕ → List ℕ → ℕ
short order place bytes = number order (part place 2 bytes)

abbrev pub long : Order → ℕ → List ℕ → ℕ
long order place bytes = number order (part place 4 bytes)

abbrev pub longer : Order → ℕ → List ℕ → ℕ
longer order place bytes = number order (part place 8 bytes)

-- bytes in a block are padded to a multiple of four
abbrev pub padded : ℕ → ℕ
padded n = (n + 3) / 4 * 4

-- the bytes that may be captured of a record
abbrev pub most_captured : ℕ
most_captured = 262144

-- the sources that a section may have
abbrev pub most_sources : ℕ
most_sources = 65536

-- counts of bytes and blocks go up to here
abbrev pub most_counted : ℕ
most_counted = 2 ^ 64 - 1

abbrev pub counted : ℕ → ℕ → ℕ
counted n more = min (n + more) most_counted
