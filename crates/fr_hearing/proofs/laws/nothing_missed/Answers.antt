use Rattle.fr_hearing.proofs.replaying.ReplayLaws.{nothing_missed}
use Rattle.fr_hearing.proofs.laws.nothing_missed.Goals as goal

pub returns : goal.returns
returns c = nothing_missed
