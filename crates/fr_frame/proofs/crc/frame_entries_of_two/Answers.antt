use Rattle.std.proofs.Common.{◌≡◌, ◌+◌, ◌*◌, ◌++◌, false, length, replicate, rules, sym, ap, ◌∙◌}
use Rattle.std.proofs.lemmas.Nat.{xor_lt}
use Rattle.fr_frame.specs.Bits.{bits_of_bytes}
use Rattle.fr_frame.specs.Crc.{frame_divisor}
use Rattle.fr_frame.specs.Register.{left_by}
use Rattle.fr_frame.proofs.TableLemmas.{stretches_add}
use Rattle.fr_frame.proofs.crc.frame_entries_of_two.Goals as goal

pub returns-clause-bits : goal.returns-clause-bits
returns-clause-bits c =
    let four : length c.args.back ≡ 4 = search rules in
    stretches_add frame_divisor 24 c.args.zeros _ _ c.args.front c.args.back
    (c.frame_entries.ensures.bits ∙ ap (λ k. left_by frame_divisor 24
    (bits_of_bytes c.args.front ++ replicate (8 * (c.args.zeros + k)) false)) (sym four))
    c.frame_entries-of_back.ensures.bits

pub returns-clause-fits : goal.returns-clause-fits
returns-clause-fits c = xor_lt 24 _ _ c.frame_entries.ensures.fits c.frame_entries-of_back.ensures.fits
