use Rattle.std.proofs.Common.{◌≡◌, ◌++◌, take}
use Rattle.std.specs.List.{flat_map}
use Rattle.fr_links.specs.Links.{owner_if}
use Rattle.fr_links.proofs.links.push_owners.Given as goal

abbrev pub invariant-loop-own : goal.invariant-loop-own
invariant-loop-own l = l.owners.items
    ≡ l.fn.owners.items ++ flat_map (owner_if l.place.slot l.place.channel l.node) (take l.own-index l.owned)
