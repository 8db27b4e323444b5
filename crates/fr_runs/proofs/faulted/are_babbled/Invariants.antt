use Rattle.std.proofs.Common.{ℕ, ◌<◌}
use Rattle.fr_runs.specs.Faulted.{IsBabbledAt}
use Rattle.fr_runs.proofs.faulted.are_babbled.Given as goal

-- the window has the babbles of the earlier lines
abbrev pub invariant-loop-place : goal.invariant-loop-place
invariant-loop-place l = (k : ℕ) → k < l.place → IsBabbledAt l.lines l.cycle l.sealed k
