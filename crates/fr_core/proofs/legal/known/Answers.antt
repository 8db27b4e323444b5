use Rattle.fr_interface.proofs.AccountLemmas.{all_accounted}
use Rattle.fr_core.proofs.legal.known.Goals as goal

pub returns-clause-accounted : goal.returns-clause-accounted
returns-clause-accounted c = all_accounted c.args.interfaces.now c.each_legal.ensures
