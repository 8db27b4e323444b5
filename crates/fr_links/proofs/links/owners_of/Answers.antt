use Rattle.std.proofs.Common.{◌≡◌, ◌++◌, List, [], refl, subst, sym}
use Rattle.std.proofs.lemmas.Option.{slice_get_read}
use Rattle.std.specs.List.{flat_map}
use Rattle.fr_slots.specs.declared.plan.Own.{Own}
use Rattle.fr_links.specs.declared.links.Owner.{Owner}
use Rattle.fr_links.specs.Links.{node_owners, owner_if}
use Rattle.fr_links.proofs.NumberedLemmas.{HasNumbered, no_item, one_item}
use Rattle.fr_links.proofs.links.owners_of.Goals as goal

pub loop-node-init : goal.loop-node-init
loop-node-init c =
    let test = node_owners c.args.place.now.slot c.args.place.now.channel in
    subst (λ (found : List Owner). HasNumbered test c.args.plans.now 0 [] found) (sym c.new-owners.ensures.items)
    (no_item test c.args.plans.now [])

pub loop-node-preserved : goal.loop-node-preserved
loop-node-preserved c =
    let slot = c.args.place.now.slot in
    let channel = c.args.place.now.channel in
    let node = c.loop-node.node in
    let plan = c.index-plans-node.result in
    let mid = c.loop-node.owners.items in
    let new = c.push_owners.new.owners.items in
    let at = slice_get_read c.args.plans.now _ node plan refl c.loop-node-test.true c.index-plans-node.is in
    one_item (node_owners slot channel) c.args.plans.now node plan [] mid new at c.loop-node.invariant
    (subst (λ (owned : List Own). new ≡ mid ++ flat_map (owner_if slot channel node) owned) c.owned.ensures.value
    c.in_ok-push_owners.ensures)
