use Rattle.fr_hearing.proofs.punctual.TimeLemmas.{even_is_timeline}
use Rattle.fr_hearing.proofs.laws.even_is_timeline.Goals as goal

pub returns : goal.returns
returns c = even_is_timeline
