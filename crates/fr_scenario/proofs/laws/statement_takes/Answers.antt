use Rattle.fr_scenario.proofs.SaidLaws.{statement_takes}
use Rattle.fr_scenario.proofs.laws.statement_takes.Goals as goal

pub returns : goal.returns
returns c = statement_takes
