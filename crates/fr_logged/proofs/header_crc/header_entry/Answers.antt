use Rattle.std.proofs.Common.{refl, ltb}
use Rattle.std.proofs.lemmas.Bool.{ltb-true}
use Rattle.fr_frame.specs.Bits.{bits_of}
use Rattle.fr_frame.specs.Crc.{header_divisor, xor_front, divide_once, divide}
use Rattle.fr_frame.specs.Tables.{is_entry}
use Rattle.fr_frame.proofs.TableLemmas.{are_same-true}
use Rattle.fr_logged.proofs.header_crc.header_entry.Goals as goal

-- each entry, computed by long division
pub returns-clause-bits : goal.returns-clause-bits
unfolding bits_of xor_front divide_once divide
returns-clause-bits c = are_same-true _ _ (c.entry.ensures (is_entry header_divisor 11) refl)

pub returns-clause-fits : goal.returns-clause-fits
returns-clause-fits c = ltb-true _ _ (c.entry.ensures (λ zeros byte n. ltb n 2048) refl)
