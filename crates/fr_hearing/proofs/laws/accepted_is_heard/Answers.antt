use Rattle.fr_hearing.proofs.AcceptedLaws.{accepted_is_heard}
use Rattle.fr_hearing.proofs.laws.accepted_is_heard.Goals as goal

pub returns : goal.returns
returns c = accepted_is_heard
