use Rattle.fr_scenario.proofs.StatementLaws.{line_again}
use Rattle.fr_scenario.proofs.laws.line_again.Goals as goal

pub returns : goal.returns
returns c = line_again
