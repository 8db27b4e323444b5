use Rattle.std.proofs.Common.{◌≡◌, ◌<◌, ◌*◌, ◌^◌, drop}
use Rattle.fr_frame.specs.Bits.{bits_of, bits_of_bytes}
use Rattle.fr_frame.specs.Crc.{frame_divisor}
use Rattle.fr_frame.specs.Register.{divided}
use Rattle.fr_frame.proofs.crc.step_rest.Given as goal

-- the division of the rest, from here, equals the division of the whole message
abbrev pub invariant-loop-four : goal.invariant-loop-four
invariant-loop-four l = record {
  fits : l.register < 2 ^ 24;
  rest : divided frame_divisor (bits_of 24 l.register) (bits_of_bytes (drop (l.four-index * 4) l.bytes))
      ≡ divided frame_divisor (bits_of 24 l.fn.register) (bits_of_bytes l.bytes);
}

abbrev pub invariant-loop-byte : goal.invariant-loop-byte
invariant-loop-byte l = record {
  fits : l.register < 2 ^ 24;
  rest : divided frame_divisor (bits_of 24 l.register) (bits_of_bytes (drop l.byte-index l.rest))
      ≡ divided frame_divisor (bits_of 24 l.fn.register) (bits_of_bytes l.bytes);
}
