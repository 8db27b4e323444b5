use Rattle.std.proofs.Common.{arith}
use Rattle.fr_streaming.proofs.AlikeLemmas.{passed_none, struck_all, struck_more}
use Rattle.fr_streaming.proofs.playing.strike_all.Goals as goal

pub loop-line-init : goal.loop-line-init
loop-line-init c = passed_none c.args.world.now

pub loop-line-preserved : goal.loop-line-preserved
loop-line-preserved c =
    struck_more c.args.cycle c.args.window.now c.args.world.now c.loop-line.world c.strike.new.world c.args.faults.now
    c.loop-line.line-index c.line-item.result c.loop-line-test.true c.line-item.is c.loop-line.invariant
    c.in_ok-strike.ensures

pub returns : goal.returns
returns c =
    struck_all c.args.cycle c.args.window.now c.args.world.now c.loop-line.world c.args.faults.now
    c.loop-line.line-index (omega (arith, c.loop-line-test.false)) c.loop-line.invariant
