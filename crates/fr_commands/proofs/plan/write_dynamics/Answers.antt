use Rattle.std.proofs.Common.{◌≡◌, List, Some, slice_get, refl, subst}
use Rattle.std.proofs.lemmas.Option.{slice_get_read}
use Rattle.std.specs.Io.KnownBytes.{Appends}
use Rattle.std.specs.List.{flat_map}
use Rattle.fr_slots.specs.declared.plan.Buffer.{Buffer}
use Rattle.fr_slots.specs.Parameters.{Parameters}
use Rattle.fr_slots.specs.Plans.{Plan}
use Rattle.fr_commands.specs.PlanText.{buffer_text, node_text}
use Rattle.fr_files.proofs.NodeTextLemmas.{no_node, one_node}
use Rattle.fr_commands.proofs.plan.write_dynamics.Goals as goal

pub loop-number-init : goal.loop-number-init
loop-number-init g c = no_node (node_text c.args.cluster.now.params) c.args.cluster.now.plans
    (g.W.Write.contents c.args.writer.now)

pub loop-number-preserved : goal.loop-number-preserved
loop-number-preserved g c =
    let d = c.args.cluster.now in
    let number = c.loop-number.number in
    let before = g.W.Write.contents c.loop-number.writer in
    let after = g.W.Write.contents c.write_buffers.new.writer in
    let with_params = subst (λ (p : Parameters). Appends before after
    (flat_map (buffer_text p number) c.buffers.result.now)) c.params.ensures.value c.in_ok-write_buffers.ensures in
    let written = subst (λ (bs : List Buffer). Appends before after (flat_map (buffer_text d.params number) bs))
    c.buffers.ensures.value with_params in
    one_node (node_text d.params) d.plans number c.plan-item.result (g.W.Write.contents c.args.writer.now) before after
    (subst (λ (plans : List Plan). slice_get plans number ≡ Some c.plan-item.result) c.plans-plan-items.ensures.value
    (slice_get_read c.plans-plan-items.result.now _ number c.plan-item.result refl c.loop-number-test.true
    c.plan-item.is))
    c.loop-number.invariant written
