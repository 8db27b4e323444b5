use Rattle.std.proofs.Common.{◌≡◌, drop}
use Rattle.fr_bus.specs.Record.{offer_in}
use Rattle.fr_bus.proofs.outcome.offer_in.Given as goal

-- the offer is among the remaining ones
abbrev pub invariant-loop-t : goal.invariant-loop-t
invariant-loop-t l = offer_in l.channel l.node (drop l.t-index l.sent) ≡ offer_in l.channel l.node l.sent
