use Rattle.std.proofs.Common.{◌≡◌}
use Rattle.fr_desks.specs.Letters.{AreSeen}
use Rattle.fr_desks.proofs.letter.take_each.Given as goal

-- the nodes so far
abbrev pub invariant-loop-at : goal.invariant-loop-at
invariant-loop-at l = record {
  seen : AreSeen l.fn.bus l.at l.places;
  cluster : l.bus.cluster ≡ l.fn.bus.cluster;
  sealed : l.bus.sealed ≡ l.fn.bus.sealed;
}
