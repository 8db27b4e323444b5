use Rattle.std.proofs.Common.{ap, sym, ◌∙◌}
use Rattle.fr_interface.proofs.RoomLemmas.{fault-limits}
use Rattle.fr_slots.specs.Faults.{plan_fault}
use Rattle.fr_auditing.proofs.plans.LongPlan.interface.Goals as goal

pub new-requires-clause-faultless : goal.new-requires-clause-faultless
new-requires-clause-faultless c =
    let l = c.self.inside in
    sym (fault-limits c.args.params.now l.plan l.host_entries l.slot_entries)
    ∙ ap (plan_fault c.args.params.now) c.self.view_is ∙ c.requires
