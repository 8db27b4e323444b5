use Rattle.std.proofs.Common.{ℕ, List, ap, ◌∙◌, sym}
use Rattle.fr_frame.proofs.FieldLemmas.{number-read}
use Rattle.fr_frame.proofs.ReadingLemmas.{last_part}
use Rattle.fr_frame.specs.Bits.{number_of, bits_of_bytes}
use Rattle.fr_logged.proofs.frame.trailer_of.Goals as goal

pub returns : goal.returns
returns c =
    sym (number-read _ c.number_from.result c.number_from.ensures.bits c.number_from.ensures.fits)
    ∙ ap (λ (t : List ℕ). number_of (bits_of_bytes t)) (last_part c.args.bytes.now)
