use Rattle.fr_guarantees.proofs.ChanceLemmas.{all_offered}
use Rattle.fr_guarantees.proofs.laws.all_offered.Goals as goal

pub returns : goal.returns
returns c = all_offered
