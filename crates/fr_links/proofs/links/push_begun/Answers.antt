use Rattle.std.proofs.Common.{◌≤◌, length, List, subst}
use Rattle.std.proofs.lemmas.Option.{slice_get_past}
use Rattle.fr_slots.specs.Plans.{Plan}
use Rattle.fr_links.proofs.LinkLemmas.{begun_none}
use Rattle.fr_links.proofs.links.push_begun.Goals as goal

pub returns-in-None : goal.returns-in-None
returns-in-None c =
    let d = c.args.cluster.now in
    let node = c.args.owner.now.node in
    let past : length d.plans ≤ node = subst (λ (plans : List Plan). length plans ≤ node) c.plans.ensures.value
    c.in-None.ensures.lookup.3 in
    begun_none d c.args.place.now.slot c.args.place.now.channel c.args.base c.args.owner.now c.args.links.now.items
    (slice_get_past d.plans node past)
