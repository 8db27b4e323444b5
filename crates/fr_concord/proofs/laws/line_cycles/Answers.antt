use Rattle.fr_concord.proofs.CycleLemmas.{line_cycles}
use Rattle.fr_concord.proofs.laws.line_cycles.Goals as goal

pub returns : goal.returns
returns c = line_cycles
