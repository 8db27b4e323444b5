use Rattle.std.proofs.Common.{List, take}
use Rattle.fr_slots.specs.declared.filter.Filter.{Filter}
use Rattle.fr_slots.specs.Sharing.{IsFirst, is_shared_with, is_shared_by}
use Rattle.fr_slots.proofs.PlanLemmas.{taken_more}
use Rattle.fr_slots.proofs.SharingLemmas.{IsFirst-earlier, with-more}
use Rattle.fr_slots.proofs.sharing.first_shared_with.Goals as goal

pub loop-other-preserved : goal.loop-other-preserved
loop-other-preserved c =
    taken_more (λ (others : List Filter). IsFirst (is_shared_with c.args.filter.now others) c.earlier-first.result)
    c.args.others.now c.loop-other.other-index c.other-item.result c.loop-other-test.true c.other-item.is
    (rw c.earlier-first.ensures
    (IsFirst-earlier (is_shared_with c.args.filter.now (take c.loop-other.other-index c.args.others.now))
    (is_shared_by c.args.filter.now c.other-item.result) _
    c.loop-other.first c.first_shared_by.result
    (with-more c.args.filter.now c.other-item.result (take c.loop-other.other-index c.args.others.now))
    c.loop-other.invariant c.first_shared_by.ensures))
