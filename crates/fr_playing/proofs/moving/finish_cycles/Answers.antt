use Rattle.fr_playing.proofs.MovingLemmas.{passes_none, passes_more}
use Rattle.fr_playing.proofs.moving.finish_cycles.Goals as goal

pub loop-count-init : goal.loop-count-init
loop-count-init c = passes_none c.args.faults.now c.args.events.now c.args.world.now

pub loop-count-preserved : goal.loop-count-preserved
loop-count-preserved c =
    passes_more c.args.faults.now c.args.events.now c.loop-count.count c.finish_cycle.result c.args.world.now
    c.loop-count.world c.finish_cycle.new.world
    c.loop-count.invariant c.finish_cycle.ensures c.in-None.is
