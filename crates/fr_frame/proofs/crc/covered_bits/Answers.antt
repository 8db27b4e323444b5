use Rattle.std.proofs.Common.{ap, ◌∙◌, ◌/◌, length}
use Rattle.fr_frame.proofs.CoveredLemmas.{digit_is, covered_joined, covered_fits}
use Rattle.fr_frame.proofs.crc.covered_bits.Goals as goal

pub returns-clause-bits : goal.returns-clause-bits
returns-clause-bits c =
    rw (← c.frame.view_is) (covered_joined _ c.from.result c.from-2.result c.from-3.result
    (length c.as_slice.result.now / 2)
    (c.from.ensures ∙ digit_is _) (c.from-2.ensures ∙ digit_is _) c.from-3.ensures
    (ap (λ bytes. length bytes / 2) c.as_slice.ensures.value)
    c.frame.invariant c.as_slice.ensures.is_payload)

pub returns-clause-fits : goal.returns-clause-fits
returns-clause-fits c =
    covered_fits _ _ _ _ c.from.result c.from-2.result c.from-3.result (length c.as_slice.result.now / 2)
    (c.from.ensures ∙ digit_is _) (c.from-2.ensures ∙ digit_is _) c.from-3.ensures
    (ap (λ bytes. length bytes / 2) c.as_slice.ensures.value)
    c.frame.invariant c.as_slice.ensures.is_payload.short
