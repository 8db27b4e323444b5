use Rattle.std.proofs.Common.{◌≡◌, ◌<◌, ◌*◌, ◌^◌, drop}
use Rattle.fr_frame.specs.Bits.{bits_of, bits_of_bytes}
use Rattle.fr_frame.specs.Crc.{frame_check, frame_divisor}
use Rattle.fr_frame.specs.Register.{divided}
use Rattle.fr_frame.proofs.crc.crc24.Given as goal

-- the division of the rest, from here, equals the division of the whole message
abbrev pub invariant-loop-sixteen : goal.invariant-loop-sixteen
invariant-loop-sixteen l = record {
  fits : l.register < 2 ^ 24;
  rest : divided frame_divisor (bits_of 24 l.register) (bits_of_bytes (drop (l.sixteen-index * 16) l.bytes))
      ≡ frame_check l.fn.channel l.bytes;
}
