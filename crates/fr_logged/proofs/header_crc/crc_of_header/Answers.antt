use Rattle.std.proofs.Common.{◌^◌, ◌*◌, ◌%◌, ◌∷◌, [], get_or, ap, ◌∙◌}
use Rattle.std.specs.Int.{bytes_high_first}
use Rattle.std.specs.Int.Bits.{bit_xor}
use Rattle.std.proofs.lemmas.Nat.{xor_lt}
use Rattle.fr_frame.specs.Bits.{bits_of_bytes}
use Rattle.fr_frame.specs.Crc.{header_divisor}
use Rattle.fr_frame.specs.Register.{left_by}
use Rattle.fr_frame.proofs.TableLemmas.{three_entries, header_met, number_by_bits}
use Rattle.fr_logged.proofs.header_crc.crc_of_header.Goals as goal

pub returns-clause-bits : goal.returns-clause-bits
returns-clause-bits c =
    three_entries header_divisor 11 _ _ _ _ _ _ c.header_entry.ensures.bits c.header_entry-2.ensures.bits
    c.header_entry-3.ensures.bits
    ∙ ap (λ r. left_by header_divisor 11 (bits_of_bytes (get_or r 1 0 ∷ get_or r 2 0 ∷ get_or r 3 0 ∷ [])))
    c.to_be_bytes.ensures
    ∙ ap (λ k. left_by header_divisor 11 (bits_of_bytes
    (bytes_high_first 3 (bit_xor c.args.covered (k * 512 % 2 ^ 32))))) c.from.ensures
    ∙ header_met c.args.covered c.requires

pub returns-clause-fits : goal.returns-clause-fits
returns-clause-fits c = xor_lt 11 _ _ (xor_lt 11 _ _ c.header_entry.ensures.fits c.header_entry-2.ensures.fits)
    c.header_entry-3.ensures.fits

pub returns-clause-value : goal.returns-clause-value
returns-clause-value c = number_by_bits 11 _ _ (returns-clause-fits c) (returns-clause-bits c)
