use Rattle.std.proofs.Common.{refl, ◌∙◌, ◌/◌, length}
use Rattle.fr_frame.proofs.CoveredLemmas.{digit_is, covered_joined, covered_fits}
use Rattle.fr_logged.proofs.header_crc.covered_bits.Goals as goal

pub returns-clause-bits : goal.returns-clause-bits
returns-clause-bits c =
    rw (← c.frame.view_is) (covered_joined _ c.from.result c.from-2.result c.from-3.result
    (length c.frame.inside.payload.now / 2) (c.from.ensures ∙ digit_is _) (c.from-2.ensures ∙ digit_is _)
    c.from-3.ensures refl c.frame.invariant.0 c.frame.invariant.1)

pub returns-clause-fits : goal.returns-clause-fits
returns-clause-fits c =
    covered_fits _ _ _ _ c.from.result c.from-2.result c.from-3.result (length c.frame.inside.payload.now / 2)
    (c.from.ensures ∙ digit_is _) (c.from-2.ensures ∙ digit_is _) c.from-3.ensures refl c.frame.invariant.0
    c.frame.invariant.1.short
