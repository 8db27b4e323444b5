use Rattle.std.proofs.Common.{ℕ, ◌<◌}
use Rattle.fr_core.specs.Walks.{HasLineAt}
use Rattle.fr_core.proofs.tasks.have_lines.Given as goal

-- the earlier scripts have the line
abbrev pub invariant-loop-given : goal.invariant-loop-given
invariant-loop-given l = (k : ℕ) → k < l.given → HasLineAt l.scripts l.node l.task l.place l.executed k
