use Rattle.std.proofs.Common.{◌≡◌}
use Rattle.fr_judging.specs.Judging.{quiet}
use Rattle.fr_judging.proofs.judge.Judge.quiet.Given as goal

-- the cycles so far have been looked at
abbrev pub invariant-loop-k : goal.invariant-loop-k
invariant-loop-k l = l.quiet ≡ quiet l.self l.slot l.from l.k
