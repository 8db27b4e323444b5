use Rattle.std.proofs.Common.{◌≡◌, ◌*◌, ◌++◌, false, length, replicate, rules, sym, ap, ◌∙◌}
use Rattle.std.proofs.lemmas.Nat.{xor_lt}
use Rattle.fr_frame.specs.Bits.{bits_of_bytes}
use Rattle.fr_frame.specs.Crc.{frame_divisor}
use Rattle.fr_frame.specs.Register.{left_by}
use Rattle.fr_frame.proofs.TableLemmas.{four_entries, four_of}
use Rattle.fr_frame.proofs.crc.frame_entries.Goals as goal

pub returns-clause-bits : goal.returns-clause-bits
returns-clause-bits c =
    let four : length c.args.word ≡ 4 = search rules in
    four_entries frame_divisor 24 c.args.zeros _ _ _ _ _ _ _ _ c.frame_entry.ensures.bits c.frame_entry-2.ensures.bits
    c.frame_entry-3.ensures.bits c.frame_entry-4.ensures.bits
    ∙ ap (λ w. left_by frame_divisor 24 (bits_of_bytes w ++ replicate (8 * c.args.zeros) false))
    (sym (four_of c.args.word four))

pub returns-clause-fits : goal.returns-clause-fits
returns-clause-fits c = xor_lt 24 _ _ (xor_lt 24 _ _ (xor_lt 24 _ _ c.frame_entry.ensures.fits
    c.frame_entry-2.ensures.fits) c.frame_entry-3.ensures.fits) c.frame_entry-4.ensures.fits
