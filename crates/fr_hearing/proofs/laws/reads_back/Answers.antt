use Rattle.fr_hearing.proofs.CaptureLaws.{reads_back}
use Rattle.fr_hearing.proofs.laws.reads_back.Goals as goal

pub returns : goal.returns
returns c = reads_back
