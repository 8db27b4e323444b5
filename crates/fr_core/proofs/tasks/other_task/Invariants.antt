use Rattle.std.proofs.Common.{ℕ, ◌<◌}
use Rattle.fr_core.specs.Walks.{SuitsAt}
use Rattle.fr_core.proofs.tasks.other_task.Given as goal

-- the earlier tasks executed their scripts
abbrev pub invariant-loop-number : goal.invariant-loop-number
invariant-loop-number l = (task : ℕ) → task < l.number → SuitsAt l.scripts l.node l.courses task
