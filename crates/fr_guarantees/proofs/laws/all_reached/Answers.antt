use Rattle.fr_guarantees.proofs.WorstLemmas.{all_reached}
use Rattle.fr_guarantees.proofs.laws.all_reached.Goals as goal

pub returns : goal.returns
returns c = all_reached
