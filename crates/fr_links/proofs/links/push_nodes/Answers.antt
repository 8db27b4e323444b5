use Rattle.std.proofs.Common.{◌≡◌, ◌++◌, List, Some, slice_get, refl, subst}
use Rattle.std.proofs.lemmas.Option.{slice_get_read}
use Rattle.fr_slots.specs.Parameters.{Parameters}
use Rattle.fr_slots.specs.Plans.{Plan}
use Rattle.fr_links.specs.Links.{node_links}
use Rattle.fr_links.proofs.NumberedLemmas.{no_item, one_item}
use Rattle.fr_links.proofs.links.push_nodes.Goals as goal

pub loop-node-init : goal.loop-node-init
loop-node-init c =
    no_item (node_links c.args.cluster.now.params) c.args.cluster.now.plans c.args.links.now.items

pub loop-node-preserved : goal.loop-node-preserved
loop-node-preserved c =
    let d = c.args.cluster.now in
    let node = c.loop-node.node in
    let plan = c.plan-item.result in
    let mid = c.loop-node.links.items in
    let new = c.push_node.new.links.items in
    let here = slice_get_read c.plans-plan-items.result.now _ node plan refl c.loop-node-test.true c.plan-item.is in
    let at = subst (λ (plans : List Plan). slice_get plans node ≡ Some plan) c.plans-plan-items.ensures.value here in
    one_item (node_links d.params) d.plans node plan c.args.links.now.items mid new at c.loop-node.invariant
    (subst (λ (p : Parameters). new ≡ mid ++ node_links p node plan) c.params.ensures.value c.in_ok-push_node.ensures)
