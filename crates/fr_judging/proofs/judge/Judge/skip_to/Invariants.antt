use Rattle.std.proofs.Common.{◌≡◌, ◌-◌}
use Rattle.fr_judging.specs.Judging.{skipped}
use Rattle.fr_judging.proofs.judge.Judge.skip_to.Given as goal

-- the slots so far have been counted
abbrev pub invariant-loop-slot : goal.invariant-loop-slot
invariant-loop-slot l = l.self ≡ skipped l.fn.self l.at l.cycle l.from (l.slot - l.from)
