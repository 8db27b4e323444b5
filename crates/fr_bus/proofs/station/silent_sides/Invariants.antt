use Rattle.std.proofs.Common.{◌≡◌, replicate}
use Rattle.fr_bus.specs.Stations.{silent_sides}
use Rattle.fr_bus.proofs.station.silent_sides.Given as goal

-- there are so many sides
abbrev pub invariant-loop-place : goal.invariant-loop-place
invariant-loop-place l = l.sides.items ≡ replicate l._place silent_sides
