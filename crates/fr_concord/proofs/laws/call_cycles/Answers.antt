use Rattle.fr_concord.proofs.CycleLemmas.{call_cycles}
use Rattle.fr_concord.proofs.laws.call_cycles.Goals as goal

pub returns : goal.returns
returns c = call_cycles
