use Rattle.std.proofs.Common.{List, take}
use Rattle.fr_schedule.proofs.DenseLemmas.{IsSoFar, so_far_none, so_far_more}
use Rattle.fr_schedule.specs.declared.claims.Claim.{Claim}
use Rattle.fr_slots.proofs.PlanLemmas.{taken_more}
use Rattle.fr_schedule.proofs.senders.enter_all.Goals as goal

pub loop-claim-init : goal.loop-claim-init
loop-claim-init c = so_far_none c.args.nodes.now

pub loop-claim-preserved : goal.loop-claim-preserved
loop-claim-preserved c =
    taken_more (λ (claims : List Claim). IsSoFar claims c.args.nodes.now c.enter.new.nodes c.earlier-first.result)
    c.args.claims.now c.loop-claim.claim-index c.claim-item.result c.loop-claim-test.true c.claim-item.is
    (rw c.earlier-first.ensures
    (so_far_more (take c.loop-claim.claim-index c.args.claims.now) c.claim-item.result c.args.nodes.now
    c.loop-claim.nodes c.enter.new.nodes c.loop-claim.first
    c.enter.result c.loop-claim.invariant c.enter.ensures.lawful c.enter.ensures.first c.enter.ensures.entered))
