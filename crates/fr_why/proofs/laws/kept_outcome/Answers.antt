use Rattle.fr_why.proofs.KeptLaws.{kept_outcome}
use Rattle.fr_why.proofs.laws.kept_outcome.Goals as goal

pub returns : goal.returns
returns c = kept_outcome
