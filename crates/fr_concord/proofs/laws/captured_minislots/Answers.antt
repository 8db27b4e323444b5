use Rattle.fr_concord.proofs.StartLemmas.{captured_minislots}
use Rattle.fr_concord.proofs.laws.captured_minislots.Goals as goal

pub returns : goal.returns
returns c = captured_minislots
