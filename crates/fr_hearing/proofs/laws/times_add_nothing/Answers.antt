use Rattle.fr_hearing.proofs.punctual.RunLaws.{times_add_nothing}
use Rattle.fr_hearing.proofs.laws.times_add_nothing.Goals as goal

pub returns : goal.returns
returns c = times_add_nothing
