use Rattle.std.proofs.Common.{◌≡◌, ℕ, ◌+◌, ◌++◌, List, ap, ◌∙◌, arith}
use Rattle.std.specs.List.{flat_map}
use Rattle.fr_slots.specs.Plans.{Plan}
use Rattle.fr_links.specs.declared.links.Owner.{Owner}
use Rattle.fr_links.specs.Links.{base_links, begun_links, owners}
use Rattle.fr_links.proofs.RangeLemmas.{one_number}
use Rattle.fr_links.proofs.links.push_channel.Goals as goal

pub loop-base-preserved : goal.loop-base-preserved
loop-base-preserved c =
    let d = c.args.cluster.now in
    let slot = c.args.place.now.slot in
    let channel = c.args.place.now.channel in
    let base = c.loop-base.base in
    let mid = c.loop-base.links.items in
    let given : c.as_slice.result.now ≡ owners d.plans slot channel =
    c.as_slice.ensures.value ∙ c.in_ok-owners.ensures
    ∙ ap (λ (plans : List Plan). owners plans slot channel) c.plans.ensures.value in
    let here : base ≡ 0 + base = omega arith in
    one_number (base_links d slot channel) 0 base c.args.links.now.items mid c.push_base.new.links.items
    c.loop-base.invariant
    (c.in_ok-push_base.ensures
    ∙ ap (λ (found : List Owner). mid ++ flat_map (begun_links d slot channel base) found) given
    ∙ ap (λ (n : ℕ). mid ++ base_links d slot channel n) here)
