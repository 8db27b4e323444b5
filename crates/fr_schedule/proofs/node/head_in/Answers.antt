use Rattle.std.proofs.Common.{sym}
use Rattle.fr_schedule.proofs.HeadLemmas.{owned_queue, owned_buffers, queued_buffers}
use Rattle.fr_schedule.proofs.node.head_in.Goals as goal

pub with_queue_in-requires : goal.with_queue_in-requires
with_queue_in-requires c =
    owned_queue c.args.params.now _ c.in_ok-limits.limits c.in_ok-plan.plan
    (sym c.in_ok-plan.ensures) c.in_ok-limits.ensures.no_queue

pub returns-clause-no_buffers : goal.returns-clause-no_buffers
returns-clause-no_buffers c =
    queued_buffers _ c.in_ok-plan.plan c.with_queue_in.result c.with_queue_in.ensures
    (owned_buffers c.args.params.now _ c.in_ok-limits.limits c.in_ok-plan.plan
    (sym c.in_ok-plan.ensures) c.in_ok-limits.ensures.no_buffers)
