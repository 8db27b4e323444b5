use Rattle.std.proofs.Common.{◌≡◌, ◌++◌}
use Rattle.std.specs.List.{flat_map, range_with_len}
use Rattle.fr_links.specs.Links.{slot_links}
use Rattle.fr_links.proofs.links.push_static.Given as goal

abbrev pub invariant-loop-earlier : goal.invariant-loop-earlier
invariant-loop-earlier l = l.links.items
    ≡ l.fn.links.items ++ flat_map (slot_links l.cluster) (range_with_len 1 l.earlier)
