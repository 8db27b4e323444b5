use Rattle.fr_hearing.proofs.OfferLaws.{senders_send}
use Rattle.fr_hearing.proofs.laws.senders_send.Goals as goal

pub returns : goal.returns
returns c = senders_send
