use Rattle.fr_session.proofs.LawLemmas.{stays_through}
use Rattle.fr_session.proofs.laws.receipts_stay.Goals as goal

pub returns : goal.returns
returns c terms place lines old new number replies = stays_through terms place lines old new number replies
