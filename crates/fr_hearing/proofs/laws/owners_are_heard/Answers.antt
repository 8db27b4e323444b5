use Rattle.fr_hearing.proofs.OwnersLaws.{owners_are_heard}
use Rattle.fr_hearing.proofs.laws.owners_are_heard.Goals as goal

pub returns : goal.returns
returns c = owners_are_heard
