use Rattle.std.proofs.Common.{arith, refl, lit<, ◌<◌}
use Rattle.fr_frame.specs.Bits.{bits_of}
use Rattle.fr_frame.proofs.FieldLemmas.{number-more, number-more_fits}
use Rattle.fr_logged.proofs.frame.number_from.Goals as goal

pub loop-byte-init : goal.loop-byte-init
unfolding bits_of
loop-byte-init c = record { bits = refl; fits = lit< tt }

pub loop-byte-preserved : goal.loop-byte-preserved
loop-byte-preserved c =
    let small : c.loop-byte.byte-index < 8 = omega arith in
    let byte : c.from.result < 256 = omega (arith, c.from.ensures, c.type_inv.bytes c.loop-byte.byte-index) in
    record {
      bits = number-more _ _ _ _ c.loop-byte-test.true small c.from.ensures byte c.loop-byte.invariant.fits
          c.loop-byte.invariant.bits;
      fits = number-more_fits _ _ _ small byte c.loop-byte.invariant.fits;
    }
