use Rattle.fr_concord.proofs.PlanRowLemmas.{plans_tables}
use Rattle.fr_concord.proofs.laws.plans_tables.Goals as goal

pub returns : goal.returns
returns c = plans_tables
