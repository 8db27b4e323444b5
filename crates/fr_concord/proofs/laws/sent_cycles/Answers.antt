use Rattle.fr_concord.proofs.CycleLemmas.{sent_cycles}
use Rattle.fr_concord.proofs.laws.sent_cycles.Goals as goal

pub returns : goal.returns
returns c = sent_cycles
