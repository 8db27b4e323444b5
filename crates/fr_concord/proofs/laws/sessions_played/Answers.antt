use Rattle.fr_concord.proofs.FaultRunLemmas.{sessions_played}
use Rattle.fr_concord.proofs.laws.sessions_played.Goals as goal

pub returns : goal.returns
returns c = sessions_played
