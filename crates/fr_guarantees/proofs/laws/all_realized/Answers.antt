use Rattle.fr_guarantees.proofs.ExactLemmas.{all_realized}
use Rattle.fr_guarantees.proofs.laws.all_realized.Goals as goal

pub returns : goal.returns
returns c = all_realized
