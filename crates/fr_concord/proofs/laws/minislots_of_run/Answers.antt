use Rattle.fr_concord.proofs.StartLemmas.{minislots_of_run}
use Rattle.fr_concord.proofs.laws.minislots_of_run.Goals as goal

pub returns : goal.returns
returns c = minislots_of_run
