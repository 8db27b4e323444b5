use Rattle.fr_scenario.proofs.TextLemmas.{not_first, not_there}
use Rattle.fr_scenario.proofs.scenario.begun.Goals as goal

pub returns-in_err-rest-clause-other : goal.returns-in_err-rest-clause-other
returns-in_err-rest-clause-other c =
    let text = c.args.text.now in
    λ none. not_first text (not_there text c.as_slice.result.now _ c.as_slice.ensures c.in_default.ensures.cases)
    (not_there text c.as_slice-2.result.now _ c.as_slice-2.ensures c.in_err-rest.ensures.cases)
