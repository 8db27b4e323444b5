use Rattle.std.proofs.Common.{◌≡◌, List, Some, slice_get, refl, subst}
use Rattle.std.proofs.lemmas.Option.{slice_get_read}
use Rattle.fr_files.proofs.NodeTextLemmas.{no_node, one_node}
use Rattle.fr_slots.specs.Plans.{Plan}
use Rattle.fr_latency.specs.LatencyText.{node_text}
use Rattle.fr_latency.proofs.text.write_nodes.Goals as goal

pub loop-node-init : goal.loop-node-init
loop-node-init g c = no_node (node_text c.args.cluster.now) c.args.cluster.now.plans
    (g.W.Write.contents c.args.writer.now)

pub write_node-requires-clause-node : goal.write_node-requires-clause-node
write_node-requires-clause-node g c =
    subst (λ (plans : List Plan). slice_get plans c.loop-node.node ≡ Some c.plan-item.result)
    c.plans-plan-items.ensures.value
    (slice_get_read c.plans-plan-items.result.now _ c.loop-node.node c.plan-item.result refl c.loop-node-test.true
    c.plan-item.is)

pub loop-node-preserved : goal.loop-node-preserved
loop-node-preserved g c =
    let d = c.args.cluster.now in
    let node = c.loop-node.node in
    let at = subst (λ (plans : List Plan). slice_get plans node ≡ Some c.plan-item.result)
    c.plans-plan-items.ensures.value
    (slice_get_read c.plans-plan-items.result.now _ node c.plan-item.result refl c.loop-node-test.true
    c.plan-item.is) in
    one_node (node_text d) d.plans node c.plan-item.result (g.W.Write.contents c.args.writer.now)
    (g.W.Write.contents c.loop-node.writer) (g.W.Write.contents c.write_node.new.writer) at c.loop-node.invariant
    c.in_ok-write_node.ensures
