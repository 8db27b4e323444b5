use Rattle.std.proofs.Common.{sym, ap, ◌∙◌}
use Rattle.fr_frame.specs.Spelling.{covered}
use Rattle.fr_frame.proofs.CoveredLemmas.{digit_is}
use Rattle.fr_frame.proofs.EncodingLemmas.{header_joined}
use Rattle.fr_frame.proofs.encode.header_number.Goals as goal

pub returns-clause-value : goal.returns-clause-value
returns-clause-value c =
    rw (c.from-3.ensures, c.from-4.ensures, ← c.frame.view_is)
    (header_joined _ c.from.result c.from-2.result c.covered_bits-covered.result c.crc_of_header.result c.from-5.result
    (c.from.ensures ∙ digit_is _) (c.from-2.ensures ∙ digit_is _)
    c.covered_bits-covered.ensures.fits (c.covered_bits-covered.ensures.bits ∙ ap covered (sym c.frame.view_is))
    c.crc_of_header.ensures.fits c.crc_of_header.ensures.bits
    (c.from-5.ensures ∙ c.number.ensures.value) c.number.ensures.fits)

pub returns-clause-cycle_fits : goal.returns-clause-cycle_fits
returns-clause-cycle_fits c = rw (← c.frame.view_is) c.number.ensures.fits
