use Rattle.fr_interface.proofs.AccountLemmas.{accounted}
use Rattle.fr_desks.proofs.desk.Desk.close.Goals as goal

pub returns-clause-accounted : goal.returns-clause-accounted
returns-clause-accounted g c = accounted _ c.journal-journal.ensures.legal
