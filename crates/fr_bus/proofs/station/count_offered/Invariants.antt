use Rattle.std.proofs.Common.{◌*◌, ◌≡◌, ◌≤◌, drop}
use Rattle.fr_bus.specs.Stations.{AllSendNothing}
use Rattle.fr_bus.proofs.station.count_offered.Given as goal

-- At most four for each node so far. If there are none and the remaining nodes send nothing, all send nothing.
abbrev pub invariant-loop-both : goal.invariant-loop-both
invariant-loop-both l = record {
  few : l.count ≤ 4 * l.both-index;
  none : l.count ≡ 0 → AllSendNothing (drop l.both-index l.sides) → AllSendNothing l.sides;
}
