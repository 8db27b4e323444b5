use Rattle.fr_frame.proofs.DecodingLemmas.{decoded-from}
use Rattle.fr_frame.proofs.decode.decode_lent_by.Goals as goal

pub returns-clause-value : goal.returns-clause-value
returns-clause-value c = decoded-from _ _ _ c.lent_from.ensures.refused c.lent_from.ensures.read
