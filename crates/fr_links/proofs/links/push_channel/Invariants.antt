use Rattle.std.proofs.Common.{◌≡◌, ◌++◌}
use Rattle.std.specs.List.{flat_map, range_with_len}
use Rattle.fr_links.specs.Links.{base_links}
use Rattle.fr_links.proofs.links.push_channel.Given as goal

abbrev pub invariant-loop-base : goal.invariant-loop-base
invariant-loop-base l = l.links.items
    ≡ l.fn.links.items ++ flat_map (base_links l.cluster l.place.slot l.place.channel) (range_with_len 0 l.base)
