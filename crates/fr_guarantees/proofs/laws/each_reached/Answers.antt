use Rattle.fr_guarantees.proofs.WorstLemmas.{each_reached}
use Rattle.fr_guarantees.proofs.laws.each_reached.Goals as goal

pub returns : goal.returns
returns c = each_reached
