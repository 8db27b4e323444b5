use Rattle.std.proofs.Common.{subst}
use Rattle.std.specs.Prelude.{OnOk}
use Rattle.fr_schedule.specs.Descriptions.{Description}
use Rattle.fr_commands.specs.PlanText.{AreGuardTexts, Adds}
use Rattle.fr_commands.proofs.PlanTextLemmas.{plan_done}
use Rattle.fr_commands.proofs.plan.write_plan.Goals as goal

pub returns : goal.returns
returns g c =
    let second = g.W.Write.contents c.write_dynamics.new.writer in
    let end = g.W.Write.contents c.write_guards.new.writer in
    plan_done c.write_guards.result c.args.cluster.now c.nodes.result (g.W.Write.contents c.args.writer.now)
    (g.W.Write.contents c.write_slots.new.writer) second end
    c.nodes.ensures.value c.in_ok-write_slots.ensures c.in_ok-write_dynamics.ensures
    (subst (λ (d : Description). OnOk c.write_guards.result (Adds (AreGuardTexts d c.nodes.result) second end))
    c.requires c.write_guards.ensures)
