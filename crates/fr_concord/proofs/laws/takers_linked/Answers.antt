use Rattle.fr_concord.proofs.LinkedLemmas.{takers_linked}
use Rattle.fr_concord.proofs.laws.takers_linked.Goals as goal

pub returns : goal.returns
returns c = takers_linked
