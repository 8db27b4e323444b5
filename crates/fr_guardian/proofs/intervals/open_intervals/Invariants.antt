use Rattle.std.proofs.Common.{◌*◌}
use Rattle.fr_guardian.proofs.OpenLemmas.{IsFound}
use Rattle.fr_guardian.proofs.intervals.open_intervals.Given as goal

-- the intervals before `since`, from which everything is open up to the slot
abbrev pub invariant-loop-earlier : goal.invariant-loop-earlier
invariant-loop-earlier l = IsFound l.params l.guarded l.owned l.fn.cycle l.fn.channel l.since
    (l.earlier * l.static_mt) l.intervals.items
