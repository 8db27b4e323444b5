use Rattle.std.proofs.Common.{ap, ◌+◌}
use Rattle.fr_endless.proofs.MovingLemmas.{late_next}
use Rattle.fr_endless.proofs.moving.count_late.Goals as goal

pub loop-event-preserved : goal.loop-event-preserved
loop-event-preserved c = record {
  count = ap (λ n. n + 1) c.loop-event.invariant.count;
  late = λ w is. late_next w c.args.events.now c.loop-event.event-index c.event-item.result c.loop-event-test.true
      c.event-item.is (c.loop-event.invariant.late w is) (c.is_late.ensures c.if-not-is_late.false w is);
}
