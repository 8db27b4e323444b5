use Rattle.fr_concord.proofs.GuardRowLemmas.{plans_guards}
use Rattle.fr_concord.proofs.laws.plans_guards.Goals as goal

pub returns : goal.returns
returns c = plans_guards
