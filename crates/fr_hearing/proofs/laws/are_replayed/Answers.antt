use Rattle.fr_hearing.proofs.replaying.ReplayLaws.{are_replayed}
use Rattle.fr_hearing.proofs.laws.are_replayed.Goals as goal

pub returns : goal.returns
returns c = are_replayed
