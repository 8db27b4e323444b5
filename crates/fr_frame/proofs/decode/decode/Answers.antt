use Rattle.fr_frame.proofs.DecodingLemmas.{decoded-from, found-from, only-from}
use Rattle.fr_frame.proofs.decode.decode.Goals as goal

pub returns-clause-value : goal.returns-clause-value
returns-clause-value c = rw c.frame_of.ensures (decoded-from _ _ _ c.lent_from.ensures.refused c.lent_from.ensures.read)

pub returns-clause-found : goal.returns-clause-found
returns-clause-found c = rw c.frame_of.ensures (found-from _ _ _
    (decoded-from _ _ _ c.lent_from.ensures.refused c.lent_from.ensures.read))

pub returns-clause-only : goal.returns-clause-only
returns-clause-only c = rw c.frame_of.ensures (only-from _ _ _
    (decoded-from _ _ _ c.lent_from.ensures.refused c.lent_from.ensures.read))
