use Rattle.std.proofs.Common.{◌≡◌, length}
use Rattle.fr_text.specs.Digits.{ArePacked}
use Rattle.fr_text.proofs.hexes.packed_bytes.Given as goal

abbrev pub invariant-loop-place : goal.invariant-loop-place
invariant-loop-place l = record {
  long : length l.bytes ≡ 16;
  packed : ArePacked l.place l.values l.bytes;
}
