use Rattle.std.proofs.Common.{◌≡◌, ◌<◌, ◌∙◌, length, slice_index, arith}
use Rattle.std.proofs.lemmas.List.{length-set}
use Rattle.hex.specs.Hex.{lower_digits}
use Rattle.fr_text.specs.Digits.{IsDigit}
use Rattle.fr_text.proofs.DigitLemmas.{set_each}
use Rattle.fr_text.proofs.hexes.values_in_front.Goals as goal

pub loop-place-preserved : goal.loop-place-preserved
loop-place-preserved c =
    let values = c.loop-place.values in
    let digits = c.args.digits.now in
    let place = c.loop-place.place in
    let value = c.digit_value.result in
    let within : place < length values = omega (arith, c.loop-place-test.true, c.loop-place.invariant.long) in
    record {
      long = length-set values place value ∙ c.loop-place.invariant.long;
      are =
          set_each (λ k v. (v < 16 → slice_index lower_digits v ≡ slice_index digits k)
          × (IsDigit (slice_index digits k) → v < 16)) values place value within
          (c.digit_value.ensures.is, λ is. omega (arith, c.digit_value.ensures.only is.0 is.1 is.2, is.1))
          c.loop-place.invariant.are;
    }

pub returns-clause-are : goal.returns-clause-are
returns-clause-are c =
    λ k lt. let below = c.front_below.ensures.below k lt in
    (below, (c.loop-place.invariant.are k (omega (arith, lt, c.loop-place-test.false, c.front_below.ensures.few))).0 below)

pub returns-clause-only : goal.returns-clause-only
returns-clause-only c =
    λ are. c.front_below.ensures.only (λ k lt. (c.loop-place.invariant.are k (omega (arith, lt, c.loop-place-test.false))).1
    (are k lt))
