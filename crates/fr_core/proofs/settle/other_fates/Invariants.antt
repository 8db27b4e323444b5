use Rattle.fr_core.specs.Settling.{IsFatedAt}
use Rattle.fr_core.specs.Walks.{FindsLeastBefore}
use Rattle.fr_core.proofs.settle.other_fates.Given as goal

-- the finding of the windows so far
abbrev pub invariant-loop-place : goal.invariant-loop-place
invariant-loop-place l = FindsLeastBefore (IsFatedAt l.guardian l.recorded) l.place l.found
