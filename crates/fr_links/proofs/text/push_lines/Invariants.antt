use Rattle.std.proofs.Common.{◌≡◌, ◌++◌, take}
use Rattle.std.specs.List.{flat_map}
use Rattle.fr_links.specs.LinkText.{link_line}
use Rattle.fr_links.proofs.text.push_lines.Given as goal

abbrev pub invariant-loop-link : goal.invariant-loop-link
invariant-loop-link l = l.text.items ≡ l.fn.text.items ++ flat_map (link_line l.cluster) (take l.link-index l.links)
