use Rattle.std.proofs.Common.{◌≡◌, Result, Err, rules, ap, ◌∙◌}
use Rattle.fr_scenario.proofs.TextLemmas.{no_first, made, made_unanswered, refused}
use Rattle.fr_scenario.specs.Contents.{Contents}
use Rattle.fr_scenario.specs.declared.error.ScenarioError.{ScenarioError}
use Rattle.fr_scenario.proofs.scenario.Scenario.read_old.Goals as goal

pub returns-in_default : goal.returns-in_default
returns-in_default c = λ other. no_first c.args.text.now (c.begun.ensures.other c.in_default.is)

pub returns-in_err-gathered : goal.returns-in_err-gathered
returns-in_err-gathered c =
    let version = c.in-Some.version in
    let rest = c.in-Some.rest.now in
    let gone : c.from_residual.result ≡ Err c.in_err-gathered.field-0.0 = search rules in
    λ other.
    gone
    ∙ refused version c.args.text.now rest c.in_err-gathered.field-0.0 c.in-Some.ensures.first
    (c.in_err-gathered.ensures.refused (λ memory. other (gone ∙ ap
    (λ (e : ScenarioError). let r : Result Contents ScenarioError = Err e in r) memory)))

pub invariant_of-result : goal.invariant_of-result
invariant_of-result c =
    made_unanswered c.in-Some.version c.in-Some.rest.now c.in_ok-gathered.gathered c.in_ok-scripts.scripts.items
    c.in_ok-gathered.ensures.found c.in_ok-scripts.ensures.scripts

pub returns : goal.returns
returns c =
    λ other.
    made c.in-Some.version c.args.text.now c.in-Some.rest.now c.in_ok-gathered.gathered c.in_ok-scripts.scripts.items
    c.in_ok-scripts.faults.items c.in_ok-scripts.numbers.items c.new.result.items c.new-2.result.items
    c.in-Some.ensures.first
    c.in_ok-gathered.ensures.found c.in_ok-scripts.ensures.scripts c.in_ok-scripts.ensures.faults
    c.in_ok-scripts.ensures.numbers c.new.ensures.items c.new-2.ensures.items
