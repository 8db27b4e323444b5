-- The header of a frame, read from its first five bytes (chapter 4).
use Rattle.std.specs.Prelude.{ℕ, List}
use Rattle.fr_frame.specs.Header.{number_at, flag_at, bits_at}
use Rattle.fr_frame.specs.Bits.{number_of}
use Rattle.fr_frame.specs.Crc.{header_check}
use Rattle.fr_logged.specs.declared.frame.Header.{Header}

abbrev pub header_in : List ℕ → Header
header_in bytes = record {
  preamble = flag_at 1 bytes;
  has_data = flag_at 2 bytes;
  sync = flag_at 3 bytes;
  startup = flag_at 4 bytes;
  id = number_at 5 11 bytes;
  words = number_at 16 7 bytes;
  crc = number_at 23 11 bytes;
  cycle = number_at 34 6 bytes;
}

-- the header CRC of the bits that it covers
abbrev pub right_crc : List ℕ → ℕ
right_crc bytes = number_of (header_check (bits_at 3 20 bytes))
