use Rattle.std.proofs.Common.{ℕ, ◌<◌}
use Rattle.fr_runs.specs.Suiting.{ScriptSuits}
use Rattle.fr_runs.proofs.scripts.other_script.Given as goal

-- the earlier scripts fit
abbrev pub invariant-loop-place : goal.invariant-loop-place
invariant-loop-place l = (i : ℕ) → i < l.place → ScriptSuits l.cluster l.cycles l.scripts i
