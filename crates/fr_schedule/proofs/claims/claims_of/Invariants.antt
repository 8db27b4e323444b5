use Rattle.std.proofs.Common.{◌≡◌, ◌++◌, drop}
use Rattle.fr_schedule.specs.Claims.{claims_from, filters_by}
use Rattle.fr_schedule.proofs.claims.claims_of.Given as goal

-- with the claims of the remaining nodes they are all claims
abbrev pub invariant-loop-number : goal.invariant-loop-number
invariant-loop-number l =
    l.claims.items ++ claims_from (filters_by l.lines) l.number (drop l.number l.plans) ≡ claims_from
    (filters_by l.lines) 0 l.plans
