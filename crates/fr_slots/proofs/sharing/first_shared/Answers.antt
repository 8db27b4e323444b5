use Rattle.std.proofs.Common.{List, take}
use Rattle.fr_slots.specs.declared.filter.Filter.{Filter}
use Rattle.fr_slots.specs.Sharing.{IsFirst, is_shared, is_shared_with}
use Rattle.fr_slots.proofs.PlanLemmas.{taken_more}
use Rattle.fr_slots.proofs.SharingLemmas.{IsFirst-earlier, shared-more, shared-none}
use Rattle.fr_slots.proofs.sharing.first_shared.Goals as goal

pub loop-number-init : goal.loop-number-init
loop-number-init c = shared-none

pub loop-number-preserved : goal.loop-number-preserved
loop-number-preserved c =
    taken_more (λ (filters : List Filter). IsFirst (is_shared filters) c.earlier-first.result)
    c.args.filters.now c.loop-number.number c.index-filters-number.result c.loop-number-test.true
    c.index-filters-number.is
    (rw c.earlier-first.ensures
    (IsFirst-earlier (is_shared (take c.loop-number.number c.args.filters.now))
    (is_shared_with c.index-filters-number.result (take c.loop-number.number c.args.filters.now)) _
    c.loop-number.first c.first_shared_with.result (shared-more c.index-filters-number.result
    (take c.loop-number.number c.args.filters.now))
    c.loop-number.invariant c.first_shared_with.ensures))
