use Rattle.fr_concord.proofs.CycleLemmas.{window_cycles}
use Rattle.fr_concord.proofs.laws.window_cycles.Goals as goal

pub returns : goal.returns
returns c = window_cycles
