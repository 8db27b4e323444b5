use Rattle.fr_hearing.proofs.RunLaws.{clock_is_told}
use Rattle.fr_hearing.proofs.laws.clock_is_told.Goals as goal

pub returns : goal.returns
returns c = clock_is_told
