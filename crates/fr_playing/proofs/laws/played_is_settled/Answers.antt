use Rattle.fr_playing.proofs.SettledLemmas.{settled_run}
use Rattle.fr_playing.proofs.laws.played_is_settled.Goals as goal

pub returns : goal.returns
returns c = settled_run
