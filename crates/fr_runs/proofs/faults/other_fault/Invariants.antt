use Rattle.std.proofs.Common.{ℕ, ◌<◌}
use Rattle.fr_runs.specs.Suiting.{FaultSuits}
use Rattle.fr_runs.proofs.faults.other_fault.Given as goal

-- the earlier lines fit
abbrev pub invariant-loop-place : goal.invariant-loop-place
invariant-loop-place l = (i : ℕ) → i < l.place → FaultSuits l.cluster l.cycles l.faults i
