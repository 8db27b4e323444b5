use Rattle.std.proofs.Common.{ℕ, ◌<◌}
use Rattle.fr_runs.specs.Suiting.{HasRoom}
use Rattle.fr_runs.proofs.check.full_node.Given as goal

-- the earlier nodes have room
abbrev pub invariant-loop-number : goal.invariant-loop-number
invariant-loop-number l = (n : ℕ) → n < l.number → HasRoom l.cluster l.cycles l.scripts n
