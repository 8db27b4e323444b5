use Rattle.std.proofs.Common.{◌∙◌, true, false, sym, ap, arith}
use Rattle.std.specs.List.{range_with_len}
use Rattle.std.specs.Prelude.{count_by}
use Rattle.fr_runs.specs.Cycles.{names_cycle}
use Rattle.fr_scenario.proofs.RunLemmas.{count_more}
use Rattle.fr_scenario.proofs.run_contents.cycles_in_span.Goals.{then-names, else-names}
use Rattle.fr_scenario.proofs.run_contents.cycles_in_span.Goals as goal

pub loop-cycle-preserved : goal.loop-cycle-preserved
loop-cycle-preserved c =
    let named = c.args.named in
    let all = count_by (names_cycle named) (range_with_len 0 c.args.cycles) in
    let few = c.loop-cycle.invariant.few in
    let there = ap (names_cycle named) (sym c.from.ensures) in
    elim c.if-names.branch [
      | then-names w ↦ record {
        few = omega (arith, w.count-is, few);
        left = count_more named true c.loop-cycle.count c.if-names.count c.loop-cycle.cycle c.args.cycles all
            (there ∙ sym c.names.ensures ∙ w.if-names.true) c.loop-cycle-test.true w.count-is
            c.loop-cycle.invariant.left;
      }
      | else-names w ↦ record {
        few = omega (arith, w.count-is, few);
        left = count_more named false c.loop-cycle.count c.if-names.count c.loop-cycle.cycle c.args.cycles all
            (there ∙ sym c.names.ensures ∙ w.if-names.false) c.loop-cycle-test.true (omega (arith, w.count-is))
            c.loop-cycle.invariant.left;
      }
    ]
