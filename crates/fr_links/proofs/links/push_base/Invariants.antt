use Rattle.std.proofs.Common.{◌≡◌, ◌++◌, take}
use Rattle.std.specs.List.{flat_map}
use Rattle.fr_links.specs.Links.{begun_links}
use Rattle.fr_links.proofs.links.push_base.Given as goal

abbrev pub invariant-loop-owner : goal.invariant-loop-owner
invariant-loop-owner l = l.links.items
    ≡ l.fn.links.items
    ++ flat_map (begun_links l.cluster l.place.slot l.place.channel l.base) (take l.owner-index l.owners)
