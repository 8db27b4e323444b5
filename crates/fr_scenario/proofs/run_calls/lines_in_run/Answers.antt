use Rattle.std.proofs.Common.{◌≡◌, ◌∙◌, ◌++◌, ℕ, List, [], get_or, map, sym, ap, arith}
use Rattle.std.proofs.lemmas.List.{get_or-map}
use Rattle.std.specs.List.{flat_map, range_with_len}
use Rattle.fr_core.specs.declared.script.Line.{Line}
use Rattle.fr_scenario.proofs.RunLemmas.{run_begun, run_more}
use Rattle.fr_scenario.proofs.TaskLemmas.{nothing_yet}
use Rattle.fr_scenario.specs.Contents.{node_at, task_at}
use Rattle.fr_scenario.specs.RunCalls.{calls_at, lines_of}
use Rattle.fr_scenario.proofs.run_calls.lines_in_run.Goals as goal

pub loop-cycle-init : goal.loop-cycle-init
loop-cycle-init c =
    let places = map (λ made. made.items) c.args.places.now in
    let lines = λ (k cycle : ℕ). lines_of (node_at k) (task_at k) cycle
    (calls_at c.args.statements.now (get_or places cycle [])) in
    let idle = c.in_ok-tasks.ensures.tasks in
    record {
      len = omega (arith, c.in_ok-tasks.ensures.len, c.in_ok-tasks.tasks.ok.0);
      lines = λ k within. run_begun (lines k) c.args.cycles
          (get_or (map (λ lines. lines.items) c.in_ok-tasks.tasks.items) k [])
          (ap (λ (tasks : List (List Line)). get_or tasks k []) idle ∙ nothing_yet 128 k);
    }

pub loop-cycle-preserved : goal.loop-cycle-preserved
loop-cycle-preserved c =
    let statements = c.args.statements.now in
    let cycle = c.loop-cycle.cycle in
    let places = map (λ made. made.items) c.args.places.now in
    let lines = λ (k cycle : ℕ). lines_of (node_at k) (task_at k) cycle
    (calls_at statements (get_or places cycle [])) in
    let made = c.as_slice-made.result.now in
    let from = c.from.ensures in
    let here : made ≡ get_or places cycle [] =
    c.as_slice-made.ensures.value ∙ ap (λ v. v.items) c.index-places-from.is
    ∙ sym (get_or-map (λ v. v.items) c.args.places.now c.from.result c.index-places-from.result []
    (omega (arith, from, c.requires, c.loop-cycle-test.true)))
    ∙ ap (λ j. get_or places j []) from in
    record {
      len = omega (
        arith,
        c.add_lines.ensures.len,
        c.add_lines.new.tasks.ok.0,
        c.loop-cycle.invariant.len,
        c.loop-cycle.tasks.ok.0,
      );
      lines = λ k within. run_more (lines k) (get_or (map (λ lines. lines.items) c.loop-cycle.tasks.items) k [])
          (get_or (map (λ lines. lines.items) c.add_lines.new.tasks.items) k []) cycle c.args.cycles
          (flat_map (lines k) (range_with_len 0 c.args.cycles)) c.loop-cycle-test.true
          (c.in_ok-add_lines.ensures.lines k within
          ∙ ap (λ made. get_or (map (λ lines. lines.items) c.loop-cycle.tasks.items) k []
          ++ lines_of (node_at k) (task_at k) cycle (calls_at statements made)) here)
          (c.loop-cycle.invariant.lines k within);
    }
