use Rattle.std.proofs.Common.{◌-◌, length}
use Rattle.fr_why.specs.Finding.{StandsAt}
use Rattle.fr_why.proofs.finding.find.Given as goal

-- whole lines have been read, and the rest is left
abbrev pub invariant-loop-at : goal.invariant-loop-at
invariant-loop-at l = StandsAt l.text l.start l.before l.head l.auditor

abbrev pub decreases-loop-at : goal.decreases-loop-at
decreases-loop-at l = length l.text - l.start
