use Rattle.std.proofs.Common.{◌≡◌, List, Some, slice_get, refl, subst}
use Rattle.std.proofs.lemmas.Option.{slice_get_read}
use Rattle.std.specs.Io.KnownBytes.{Appends}
use Rattle.fr_files.proofs.NodeTextLemmas.{no_node, one_node}
use Rattle.fr_openings.specs.Openings.{node_text}
use Rattle.fr_slots.specs.Parameters.{Parameters}
use Rattle.fr_slots.specs.Plans.{Plan}
use Rattle.fr_openings.proofs.openings.write_nodes.Goals as goal

pub loop-node-init : goal.loop-node-init
loop-node-init g c =
    no_node (node_text c.args.cluster.now.params c.args.cycle c.args.window.now c.args.last) c.args.cluster.now.plans
    (g.W.Write.contents c.args.writer.now)

pub loop-node-preserved : goal.loop-node-preserved
loop-node-preserved g c =
    let d = c.args.cluster.now in
    let node = c.loop-node.node in
    let plan = c.plan-item.result in
    let before = g.W.Write.contents c.loop-node.writer in
    let after = g.W.Write.contents c.write_node.new.writer in
    one_node (node_text d.params c.args.cycle c.args.window.now c.args.last) d.plans node plan
    (g.W.Write.contents c.args.writer.now) before after
    (subst (λ (plans : List Plan). slice_get plans node ≡ Some plan) c.plans-plan-items.ensures.value
    (slice_get_read c.plans-plan-items.result.now _ node plan refl c.loop-node-test.true c.plan-item.is))
    c.loop-node.invariant
    (subst (λ (p : Parameters). Appends before after (node_text p c.args.cycle c.args.window.now c.args.last node plan))
    c.params.ensures.value c.in_ok-write_node.ensures)
