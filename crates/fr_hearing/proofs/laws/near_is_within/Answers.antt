use Rattle.fr_hearing.proofs.punctual.WindowLemmas.{near_is_within}
use Rattle.fr_hearing.proofs.laws.near_is_within.Goals as goal

pub returns : goal.returns
returns c = near_is_within
