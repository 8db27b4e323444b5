use Rattle.fr_concord.proofs.PlayLemmas.{runs_determined}
use Rattle.fr_concord.proofs.laws.runs_determined.Goals as goal

pub returns : goal.returns
returns c = runs_determined
