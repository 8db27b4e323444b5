use Rattle.std.proofs.Common.{ℕ, ◌<◌}
use Rattle.fr_runs.specs.Faulted.{IsDueAt}
use Rattle.fr_runs.proofs.faulted.are_due.Given as goal

-- the earlier transmissions are due
abbrev pub invariant-loop-place : goal.invariant-loop-place
invariant-loop-place l = (k : ℕ) → k < l.place → IsDueAt l.lines l.cycle l.sealed k
