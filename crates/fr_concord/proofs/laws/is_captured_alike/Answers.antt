use Rattle.fr_concord.proofs.ListeningLemmas.{is_captured_alike}
use Rattle.fr_concord.proofs.laws.is_captured_alike.Goals as goal

pub returns : goal.returns
returns c = is_captured_alike
