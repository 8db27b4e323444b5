use Rattle.fr_concord.proofs.SessionLemmas.{sessions_determined}
use Rattle.fr_concord.proofs.laws.sessions_determined.Goals as goal

pub returns : goal.returns
returns c = sessions_determined
