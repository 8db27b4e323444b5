use Rattle.std.proofs.Common.{◌≡◌, ◌<◌, ◌*◌, ◌^◌, drop}
use Rattle.fr_frame.specs.Bits.{bits_of, bits_of_bytes}
use Rattle.fr_frame.specs.Crc.{frame_check, frame_divisor}
use Rattle.fr_frame.specs.Register.{divided}
use Rattle.fr_slots.specs.declared.channel.Channel.TheVariants.{A, B}
use Rattle.fr_frame.proofs.crc.crc24_both.Given as goal

-- on each channel the division of the rest, from here, equals the division of the whole message
abbrev pub invariant-loop-sixteen : goal.invariant-loop-sixteen
invariant-loop-sixteen l = record {
  fits_a : l.on_a < 2 ^ 24;
  fits_b : l.on_b < 2 ^ 24;
  rest_a : divided frame_divisor (bits_of 24 l.on_a) (bits_of_bytes (drop (l.sixteen-index * 16) l.bytes))
      ≡ frame_check A l.bytes;
  rest_b : divided frame_divisor (bits_of 24 l.on_b) (bits_of_bytes (drop (l.sixteen-index * 16) l.bytes))
      ≡ frame_check B l.bytes;
}
