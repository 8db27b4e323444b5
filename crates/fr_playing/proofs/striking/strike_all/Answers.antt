use Rattle.std.proofs.Common.{arith}
use Rattle.std.specs.List.{flat_map}
use Rattle.fr_playing.specs.Striking.{strike_events}
use Rattle.fr_playing.proofs.StrikingLemmas.{strikes_all, strikes_more, tells_none, tells_passes, tells_tries}
use Rattle.fr_playing.proofs.striking.strike_all.Goals as goal

pub loop-line-init : goal.loop-line-init
loop-line-init c = tells_none c.args.world.now

pub loop-line-preserved : goal.loop-line-preserved
loop-line-preserved c =
    rw c.first_of-struck.ensures
    (strikes_more c.args.cycle c.args.window.now c.args.faults.now c.loop-line.line-index c.line-item.result
    c.loop-line.struck c.strike-next.result c.args.world.now c.loop-line.world
    c.strike-next.new.world c.loop-line-test.true c.line-item.is c.loop-line.invariant c.strike-next.ensures)

pub returns-clause-passes : goal.returns-clause-passes
returns-clause-passes c =
    tells_passes c.args.world.now (flat_map (strike_events c.args.cycle c.args.window.now) c.args.faults.now)
    c.loop-line.struck c.loop-line.world
    (strikes_all c.args.cycle c.args.window.now c.args.faults.now c.loop-line.line-index c.loop-line.struck
    c.args.world.now c.loop-line.world
    (omega (arith, c.loop-line-test.false)) c.loop-line.invariant)

pub returns-clause-tries : goal.returns-clause-tries
returns-clause-tries c =
    tells_tries c.args.world.now (flat_map (strike_events c.args.cycle c.args.window.now) c.args.faults.now)
    c.loop-line.struck c.loop-line.world
    (strikes_all c.args.cycle c.args.window.now c.args.faults.now c.loop-line.line-index c.loop-line.struck
    c.args.world.now c.loop-line.world
    (omega (arith, c.loop-line-test.false)) c.loop-line.invariant)
