use Rattle.std.proofs.Common.{◌≡◌, drop}
use Rattle.std.specs.List.{find}
use Rattle.fr_bus.specs.Record.{is_offer_of}
use Rattle.fr_showing.proofs.ends.offer_of.Given as goal

-- the offer is among those that are left
abbrev pub invariant-loop-t : goal.invariant-loop-t
invariant-loop-t l = find (is_offer_of l.channel l.node) (drop l.t-index l.sent) ≡ find
    (is_offer_of l.channel l.node) l.sent
