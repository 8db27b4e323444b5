use Rattle.std.proofs.Common.{◌≡◌, ◌++◌, drop, replicate}
use Rattle.fr_bus.specs.Stations.{silent_sides}
use Rattle.fr_bus.proofs.station.clear_sides.Given as goal

-- the sides up to here are silent, and the others unchanged
abbrev pub invariant-loop-place : goal.invariant-loop-place
invariant-loop-place l = l.sides.items ≡ replicate l.place silent_sides ++ drop l.place l.fn.sides.items
