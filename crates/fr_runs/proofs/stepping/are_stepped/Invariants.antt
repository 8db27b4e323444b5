use Rattle.std.proofs.Common.{ℕ, ◌<◌}
use Rattle.fr_runs.specs.Stepping.{IsSteppedAt}
use Rattle.fr_runs.proofs.stepping.are_stepped.Given as goal

-- the earlier nodes were stepped
abbrev pub invariant-loop-number : goal.invariant-loop-number
invariant-loop-number l = (node : ℕ) → node < l.number → IsSteppedAt l.recorded l.scripts l.interfaces node
