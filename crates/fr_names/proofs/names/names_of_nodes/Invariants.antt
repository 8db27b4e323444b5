use Rattle.std.proofs.Common.{◌≡◌, map, take}
use Rattle.fr_names.specs.FileNames.{names_of_node}
use Rattle.toml.specs.View.{view}
use Rattle.fr_names.proofs.names.names_of_nodes.Given as goal

-- the names of the values so far
abbrev pub invariant-loop-value : goal.invariant-loop-value
invariant-loop-value l = l.nodes.items ≡ map names_of_node (map view (take l.value-index l.values))
