use Rattle.std.proofs.Common.{◌∙◌, map, arith}
use Rattle.std.proofs.lemmas.List.{length-map}
use Rattle.fr_scenario.proofs.RunCallLemmas.{scripts_made}
use Rattle.fr_scenario.specs.RunCalls.{ArePlaces}
use Rattle.fr_scenario.proofs.run_calls.scripts_in_run.Goals as goal

pub returns : goal.returns
returns c =
    let places = map (λ made. made.items) c.as_slice.result.now in
    let tasks = map (λ lines. lines.items) c.in_ok-tasks.tasks.items in
    let are : ArePlaces c.args.cycles c.args.statements.now places =
    rw c.as_slice.ensures.value c.in_ok-places.ensures.places in
    c.in_ok-scripts.ensures ∙ scripts_made c.args.cycles c.args.statements.now places tasks are
    c.in_ok-tasks.ensures.lines (length-map c.in_ok-tasks.tasks.items (λ lines. lines.items)
    ∙ omega (arith, c.in_ok-tasks.ensures.len, c.in_ok-tasks.tasks.ok.0))
