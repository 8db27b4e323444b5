use Rattle.fr_concord.proofs.ReceiverLemmas.{buffers_stored}
use Rattle.fr_concord.proofs.laws.buffers_stored.Goals as goal

pub returns : goal.returns
returns c = buffers_stored
