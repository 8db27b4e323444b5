use Rattle.fr_hearing.proofs.ReadBackLaws.{time_is_kept}
use Rattle.fr_hearing.proofs.laws.time_is_kept.Goals as goal

pub returns : goal.returns
returns c = time_is_kept
