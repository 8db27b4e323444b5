use Rattle.fr_guarantees.proofs.WorstLemmas.{each_worst_reached}
use Rattle.fr_guarantees.proofs.laws.each_worst_reached.Goals as goal

pub returns : goal.returns
returns c = each_worst_reached
