use Rattle.std.proofs.Common.{◌≡◌, ◌<◌, ◌^◌, ◌*◌, take}
use Rattle.fr_frame.specs.Bits.{bits_of, bits_of_bytes}
use Rattle.fr_logged.proofs.frame.number_from.Given as goal

abbrev pub invariant-loop-byte : goal.invariant-loop-byte
invariant-loop-byte l = record {
  bits : bits_of (8 * l.byte-index) l.number ≡ bits_of_bytes (take l.byte-index l.bytes);
  fits : l.number < 2 ^ (8 * l.byte-index);
}
