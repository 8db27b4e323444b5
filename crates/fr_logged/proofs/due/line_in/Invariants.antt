use Rattle.std.proofs.Common.{◌≡◌, drop}
use Rattle.std.specs.List.{find}
use Rattle.fr_slots.specs.Faults.{claims}
use Rattle.fr_logged.proofs.due.line_in.Given as goal

-- the lines so far aren't for the slot
abbrev pub invariant-loop-own : goal.invariant-loop-own
invariant-loop-own l = find (claims l.slot l.channel l.cycle) (drop l.own-index l.owned)
    ≡ find (claims l.slot l.channel l.cycle) l.owned
