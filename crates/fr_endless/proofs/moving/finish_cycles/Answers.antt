use Rattle.std.proofs.Common.{rules}
use Rattle.fr_endless.specs.Taps.{with_taps}
use Rattle.fr_endless.proofs.MovingLemmas.{passed_none, passed_more, run_hindered, run_over}
use Rattle.fr_endless.proofs.moving.finish_cycles.Goals as goal

pub loop-count-init : goal.loop-count-init
loop-count-init g c = passed_none c.args.faults.now c.args.events.now (with_taps c.args.world.now c.args.taps.now)

pub loop-count-preserved : goal.loop-count-preserved
loop-count-preserved g c =
    passed_more c.args.faults.now c.args.events.now (with_taps c.args.world.now c.args.taps.now)
    (with_taps c.loop-count.world c.loop-count.taps) (with_taps c.finish_cycle.new.world c.finish_cycle.new.taps)
    c.loop-count.count c.loop-count.invariant c.finish_cycle.result c.finish_cycle.ensures c.in-None.is

pub returns-in-Some : goal.returns-in-Some
returns-in-Some g c =
    run_hindered c.args.faults.now c.args.events.now (with_taps c.args.world.now c.args.taps.now)
    (with_taps c.loop-count.world c.loop-count.taps) (with_taps c.finish_cycle.new.world c.finish_cycle.new.taps)
    c.loop-count.count c.loop-count.invariant c.args.cycles c.in-Some.error c.loop-count-test.true c.in-Some.ensures

pub returns : goal.returns
returns g c =
    run_over c.args.faults.now c.args.events.now (with_taps c.args.world.now c.args.taps.now)
    (with_taps c.loop-count.world c.loop-count.taps) c.loop-count.count c.args.cycles
    c.loop-count.invariant (search rules)
