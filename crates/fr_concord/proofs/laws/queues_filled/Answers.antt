use Rattle.fr_concord.proofs.ReceiverLemmas.{queues_filled}
use Rattle.fr_concord.proofs.laws.queues_filled.Goals as goal

pub returns : goal.returns
returns c = queues_filled
