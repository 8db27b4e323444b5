use Rattle.fr_concord.proofs.StartLemmas.{captured_slots}
use Rattle.fr_concord.proofs.laws.captured_slots.Goals as goal

pub returns : goal.returns
returns c = captured_slots
