use Rattle.fr_guarantees.proofs.HeldTableLaws.{table_holds}
use Rattle.fr_guarantees.proofs.laws.table_holds.Goals as goal

pub returns : goal.returns
returns c = table_holds
