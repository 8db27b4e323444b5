use Rattle.fr_hearing.proofs.RunLaws.{cycles_are_heard}
use Rattle.fr_hearing.proofs.laws.cycles_are_heard.Goals as goal

pub returns : goal.returns
returns c = cycles_are_heard
