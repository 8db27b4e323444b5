use Rattle.fr_playing.proofs.StrikingLemmas.{passes_none, passes_more}
use Rattle.fr_playing.proofs.windows.pass_all.Goals as goal

pub loop-event-init : goal.loop-event-init
loop-event-init c = passes_none c.args.world.now

pub loop-event-preserved : goal.loop-event-preserved
loop-event-preserved c =
    passes_more c.args.events.now c.loop-event.event-index c.event-item.result c.args.world.now c.loop-event.world
    c.pass.new.world
    c.loop-event-test.true c.event-item.is c.loop-event.invariant c.in_ok-pass.ensures
