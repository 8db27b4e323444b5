use Rattle.fr_scenario.proofs.AnyLemmas.{told_found, told_only, told_refused, told_hopeless}
use Rattle.fr_scenario.proofs.scenario.Scenario.for_run.Goals as goal

pub returns-clause-found : goal.returns-clause-found
returns-clause-found c =
    told_found c.args.names.now c.args.cycles c.args.text.now c.read.result c.read.ensures

pub returns-clause-only : goal.returns-clause-only
returns-clause-only c s is =
    told_only c.args.names.now c.args.cycles c.args.text.now c.read.result s c.read.ensures is

pub returns-clause-refused : goal.returns-clause-refused
returns-clause-refused c =
    told_refused c.args.names.now c.args.cycles c.args.text.now c.read.result c.read.ensures

pub returns-clause-hopeless : goal.returns-clause-hopeless
returns-clause-hopeless c =
    told_hopeless c.args.names.now c.args.cycles c.args.text.now c.read.result c.read.ensures
