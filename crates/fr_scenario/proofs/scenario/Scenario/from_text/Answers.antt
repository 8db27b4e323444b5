use Rattle.std.proofs.Common.{[], List, subst}
use Rattle.fr_names.specs.Names.{NamesOfNode}
use Rattle.fr_scenario.proofs.AnyLemmas.{Tells, told_found, told_only, told_refused, told_hopeless}
use Rattle.fr_scenario.proofs.scenario.Scenario.from_text.Goals as goal

pub returns-clause-found : goal.returns-clause-found
returns-clause-found c =
    let text = c.args.text.now in
    let told = subst (λ (names : List NamesOfNode). Tells names 1024 text c.read-2.result) c.none.ensures
    c.read-2.ensures in
    told_found [] 1024 text c.read-2.result told

pub returns-clause-only : goal.returns-clause-only
returns-clause-only c s is =
    let text = c.args.text.now in
    let told = subst (λ (names : List NamesOfNode). Tells names 1024 text c.read-2.result) c.none.ensures
    c.read-2.ensures in
    told_only [] 1024 text c.read-2.result s told is

pub returns-clause-refused : goal.returns-clause-refused
returns-clause-refused c =
    let text = c.args.text.now in
    let told = subst (λ (names : List NamesOfNode). Tells names 1024 text c.read-2.result) c.none.ensures
    c.read-2.ensures in
    told_refused [] 1024 text c.read-2.result told

pub returns-clause-hopeless : goal.returns-clause-hopeless
returns-clause-hopeless c =
    let text = c.args.text.now in
    let told = subst (λ (names : List NamesOfNode). Tells names 1024 text c.read-2.result) c.none.ensures
    c.read-2.ensures in
    told_hopeless [] 1024 text c.read-2.result told
