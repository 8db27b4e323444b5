use Rattle.std.proofs.Common.{ℕ, ◌<◌}
use Rattle.fr_core.specs.Settling.{PlansAgree}
use Rattle.fr_core.proofs.settle.other_plan.Given as goal

-- the earlier places agree
abbrev pub invariant-loop-place : goal.invariant-loop-place
invariant-loop-place l = (n : ℕ) → n < l.place → PlansAgree l.cluster l.interfaces n
