use Rattle.fr_hearing.proofs.RunLaws.{finished_is_complete}
use Rattle.fr_hearing.proofs.laws.finished_is_complete.Goals as goal

pub returns : goal.returns
returns c = finished_is_complete
