use Rattle.std.proofs.Common.{arith}
use Rattle.fr_endless.specs.Taps.{with_taps}
use Rattle.fr_endless.proofs.MovingLemmas.{tried_none, tried_more, tried_all}
use Rattle.fr_endless.proofs.striking.strike_all.Goals as goal

pub loop-line-init : goal.loop-line-init
loop-line-init g c = tried_none c.args.cycle c.args.window.now (with_taps c.args.world.now c.args.taps.now)

pub loop-line-preserved : goal.loop-line-preserved
loop-line-preserved g c =
    tried_more c.args.cycle c.args.window.now (with_taps c.args.world.now c.args.taps.now)
    (with_taps c.loop-line.world c.loop-line.taps) (with_taps c.strike.new.world c.strike.new.taps) c.args.faults.now
    c.loop-line.line-index c.line-item.result c.loop-line-test.true c.line-item.is c.loop-line.invariant
    c.strike.ensures

pub returns : goal.returns
returns g c =
    tried_all c.args.cycle c.args.window.now (with_taps c.args.world.now c.args.taps.now)
    (with_taps c.loop-line.world c.loop-line.taps) c.args.faults.now
    c.loop-line.line-index (omega (arith, c.loop-line-test.false)) c.loop-line.invariant
