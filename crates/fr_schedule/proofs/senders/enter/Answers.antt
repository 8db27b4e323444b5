use Rattle.fr_schedule.proofs.DenseLemmas.{retaken_both}
use Rattle.fr_schedule.proofs.senders.enter.Goals as goal

pub returns-clause-first : goal.returns-clause-first
returns-clause-first c =
    rw c.earlier.ensures
    (retaken_both c.args.nodes.now c.enter_on-on_a.new.nodes c.args.claim.now.filter c.args.claim.now.node
    c.enter_on-on_a.result c.enter_on-on_b.result
    c.enter_on-on_a.ensures.lawful.slot_is c.enter_on-on_a.ensures.first c.enter_on-on_a.ensures.entered
    c.enter_on-on_b.ensures.first)
