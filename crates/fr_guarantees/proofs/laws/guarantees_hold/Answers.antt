use Rattle.fr_guarantees.proofs.GuaranteeLemmas.{guarantees}
use Rattle.fr_guarantees.proofs.laws.guarantees_hold.Goals as goal

pub returns : goal.returns
returns c = guarantees
