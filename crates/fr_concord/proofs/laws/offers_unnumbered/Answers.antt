use Rattle.fr_concord.proofs.FaultLineLemmas.{offers_unnumbered}
use Rattle.fr_concord.proofs.laws.offers_unnumbered.Goals as goal

pub returns : goal.returns
returns c = offers_unnumbered
