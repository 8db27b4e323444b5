use Rattle.std.proofs.Common.{◌≡◌, map, take}
use Rattle.fr_names.specs.FileNames.{name_of}
use Rattle.toml.specs.View.{view}
use Rattle.fr_names.proofs.table.names_of_buffers.Given as goal

-- the names of the values so far
abbrev pub invariant-loop-value : goal.invariant-loop-value
invariant-loop-value l = l.names.items ≡ map name_of (map view (take l.value-index l.values))
