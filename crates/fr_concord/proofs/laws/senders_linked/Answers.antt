use Rattle.fr_concord.proofs.SenderLemmas.{senders_linked}
use Rattle.fr_concord.proofs.laws.senders_linked.Goals as goal

pub returns : goal.returns
returns c = senders_linked
