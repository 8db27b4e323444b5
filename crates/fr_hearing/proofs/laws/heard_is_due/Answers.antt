use Rattle.fr_hearing.proofs.ListenLaws.{heard_is_due}
use Rattle.fr_hearing.proofs.laws.heard_is_due.Goals as goal

pub returns : goal.returns
returns c = heard_is_due
