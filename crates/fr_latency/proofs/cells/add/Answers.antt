use Rattle.std.proofs.Common.{arith}
use Rattle.fr_latency.proofs.CellLemmas.{added_none, added_more}
use Rattle.fr_latency.proofs.cells.add.Goals as goal

pub loop-index-init : goal.loop-index-init
loop-index-init c = added_none c.args.from.now c.args.shift c.args.mask c.args.cells.now

pub loop-index-preserved : goal.loop-index-preserved
loop-index-preserved c =
    added_more c.args.from.now c.args.shift c.loop-index.index c.args.mask c.args.cells.now c.loop-index.cells
    (omega arith) c.loop-index.invariant
