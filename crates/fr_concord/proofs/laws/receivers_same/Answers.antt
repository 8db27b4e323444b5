use Rattle.fr_concord.proofs.ReceiverLemmas.{receivers_same}
use Rattle.fr_concord.proofs.laws.receivers_same.Goals as goal

pub returns : goal.returns
returns c = receivers_same
