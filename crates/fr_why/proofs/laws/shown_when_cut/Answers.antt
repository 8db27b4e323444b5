use Rattle.fr_why.proofs.KeptLaws.{shown_when_cut}
use Rattle.fr_why.proofs.laws.shown_when_cut.Goals as goal

pub returns : goal.returns
returns c = shown_when_cut
