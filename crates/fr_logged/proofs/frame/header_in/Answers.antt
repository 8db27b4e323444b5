use Rattle.fr_logged.proofs.HeaderLemmas.{header_read}
use Rattle.fr_logged.proofs.frame.header_in.Goals as goal

pub returns-clause-value : goal.returns-clause-value
returns-clause-value c =
    header_read c.header_number-header.result _ c.args.bytes.now c.header_number-header.ensures c.from_bits.ensures
