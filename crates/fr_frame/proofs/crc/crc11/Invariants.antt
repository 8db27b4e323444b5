use Rattle.std.proofs.Common.{◌≡◌, ◌<◌, ◌^◌, true, ◌∷◌, drop}
use Rattle.fr_frame.specs.Bits.{bits_of}
use Rattle.fr_frame.specs.Crc.{header_check}
use Rattle.fr_frame.specs.Register.{divided}
use Rattle.fr_frame.proofs.crc.crc11.Given as goal

-- the division of the rest, from here, equals the division of the whole message
abbrev pub invariant-loop-bit : goal.invariant-loop-bit
invariant-loop-bit l = record {
  fits : l.register < 2 ^ 11;
  rest : divided (true ∷ bits_of 11 0x385) (bits_of 11 l.register) (drop l.bit-index l.bits) ≡ header_check l.bits;
}
