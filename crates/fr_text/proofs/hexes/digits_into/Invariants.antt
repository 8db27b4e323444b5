use Rattle.std.proofs.Common.{◌≡◌, ◌*◌, length, take}
use Rattle.hex.specs.Hex.{encode_lower, IsBytes}
use Rattle.fr_text.proofs.hexes.digits_into.Given as goal

-- The bytes are those of the blocks so far.
abbrev pub invariant-loop-block : goal.invariant-loop-block
invariant-loop-block g l = record {
  long : length l.bytes.items ≡ 16 * l.block-index;
  fits : IsBytes l.bytes.items;
  spelled : encode_lower l.bytes.items ≡ take (32 * l.block-index) l.digits;
}
