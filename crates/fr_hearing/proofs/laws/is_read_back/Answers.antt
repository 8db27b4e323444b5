use Rattle.fr_hearing.proofs.ReadBackLaws.{is_read_back}
use Rattle.fr_hearing.proofs.laws.is_read_back.Goals as goal

pub returns : goal.returns
returns c = is_read_back
