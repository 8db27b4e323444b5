use Rattle.std.proofs.Common.{List, [], refl, subst, sym}
use Rattle.std.proofs.lemmas.Option.{slice_get_read}
use Rattle.fr_links.specs.declared.receivers.Receiver.{Receiver}
use Rattle.fr_links.specs.Receivers.{node_receivers}
use Rattle.fr_links.proofs.NumberedLemmas.{HasNumbered, no_item, one_item}
use Rattle.fr_links.proofs.receivers.receivers_among.Goals as goal

pub loop-node-init : goal.loop-node-init
loop-node-init c =
    let test = node_receivers c.args.link.now in
    subst (λ (found : List Receiver). HasNumbered test c.args.plans.now 0 [] found)
    (sym c.new-receivers.ensures.items)
    (no_item test c.args.plans.now [])

pub loop-node-preserved : goal.loop-node-preserved
loop-node-preserved c =
    let node = c.loop-node.node in
    let plan = c.index-plans-node.result in
    let at = slice_get_read c.args.plans.now _ node plan refl c.loop-node-test.true c.index-plans-node.is in
    one_item (node_receivers c.args.link.now) c.args.plans.now node plan [] c.loop-node.receivers.items
    c.push_node.new.receivers.items at c.loop-node.invariant c.in_ok-push_node.ensures
