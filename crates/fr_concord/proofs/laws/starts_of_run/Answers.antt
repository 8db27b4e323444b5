use Rattle.fr_concord.proofs.StartLemmas.{starts_of_run}
use Rattle.fr_concord.proofs.laws.starts_of_run.Goals as goal

pub returns : goal.returns
returns c = starts_of_run
