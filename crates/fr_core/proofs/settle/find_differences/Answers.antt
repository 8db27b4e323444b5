use Rattle.std.proofs.Common.{arith}
use Rattle.fr_core.proofs.SettleLemmas.{differences_on}
use Rattle.fr_core.proofs.settle.find_differences.Goals as goal

pub loop-number-preserved : goal.loop-number-preserved
loop-number-preserved c =
    differences_on c.args.params.now c.args.interfaces.now c.args.recorded.now c.args.scripts.now c.loop-number.number
    c.from_number-node.result c.loop-number.all _
    c.found_at-found.result c.from_number-node.ensures (omega (arith, c.loop-number-test.true)) c.loop-number.invariant
    c.found_at-found.ensures
    c.or_node.ensures c.or_place.ensures c.or_place-in-loop-number.ensures c.or_task.ensures
