use Rattle.std.proofs.Common.{◌≡◌, ℕ, ◌<◌, length, slice_index}
use Rattle.hex.specs.Hex.{lower_digits}
use Rattle.fr_text.specs.Digits.{IsDigit}
use Rattle.fr_text.proofs.hexes.values_in_front.Given as goal

-- Each value so far below 16 is that of its digit, and each digit so far has a value below 16.
abbrev pub invariant-loop-place : goal.invariant-loop-place
invariant-loop-place l = record {
  long : length l.values ≡ 32;
  are :
      (k : ℕ) → k < l.place → (slice_index l.values k < 16
      → slice_index lower_digits (slice_index l.values k) ≡ slice_index l.digits k)
      × (IsDigit (slice_index l.digits k) → slice_index l.values k < 16);
}
