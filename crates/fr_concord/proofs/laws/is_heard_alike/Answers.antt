use Rattle.fr_concord.proofs.ListeningLemmas.{is_heard_alike}
use Rattle.fr_concord.proofs.laws.is_heard_alike.Goals as goal

pub returns : goal.returns
returns c = is_heard_alike
