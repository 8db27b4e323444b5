use Rattle.std.proofs.Common.{ℕ, ◌<◌}
use Rattle.fr_core.specs.Walks.{IsAsLongAt}
use Rattle.fr_core.proofs.tasks.are_as_long.Given as goal

-- the earlier scripts have as many lines
abbrev pub invariant-loop-given : goal.invariant-loop-given
invariant-loop-given l = (k : ℕ) → k < l.given → IsAsLongAt l.scripts l.node l.task l.calls k
