use Rattle.std.proofs.Common.{ap, sym, ◌∙◌}
use Rattle.std.specs.Prelude.{is_some}
use Rattle.fr_interface.proofs.RoomLemmas.{fault-limits}
use Rattle.fr_slots.specs.Faults.{plan_fault}
use Rattle.fr_auditing.proofs.plans.LongPlan.is_faulty.Goals as goal

pub returns : goal.returns
returns c =
    let l = c.self.inside in
    c.is_some.ensures
    ∙ ap is_some (c.fault.ensures.value
    ∙ sym (fault-limits c.args.params.now l.plan l.host_entries l.slot_entries)
    ∙ ap (plan_fault c.args.params.now) c.self.view_is)
