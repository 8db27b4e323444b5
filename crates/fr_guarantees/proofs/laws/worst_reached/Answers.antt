use Rattle.fr_guarantees.proofs.WorstLemmas.{worst_reached}
use Rattle.fr_guarantees.proofs.laws.worst_reached.Goals as goal

pub returns : goal.returns
returns c = worst_reached
