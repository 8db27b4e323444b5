use Rattle.fr_concord.proofs.StartLemmas.{pictured_slots}
use Rattle.fr_concord.proofs.laws.pictured_slots.Goals as goal

pub returns : goal.returns
returns c = pictured_slots
