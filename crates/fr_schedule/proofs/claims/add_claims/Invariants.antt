use Rattle.std.proofs.Common.{◌≡◌, ◌++◌, map, take}
use Rattle.fr_schedule.specs.Claims.{claim_of}
use Rattle.fr_schedule.proofs.claims.add_claims.Given as goal

abbrev pub invariant-loop-filter : goal.invariant-loop-filter
invariant-loop-filter l = l.claims.items ≡ l.initial.claims.items ++ map (claim_of l.node)
    (take l.filter-index l.filters)
