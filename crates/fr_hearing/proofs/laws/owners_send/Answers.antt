use Rattle.fr_hearing.proofs.OfferLaws.{owners_send}
use Rattle.fr_hearing.proofs.laws.owners_send.Goals as goal

pub returns : goal.returns
returns c = owners_send
