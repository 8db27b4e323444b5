use Rattle.std.proofs.Common.{◌≡◌, replicate}
use Rattle.fr_core.specs.Carried.{Idle}
use Rattle.fr_live.proofs.machine.idle_controllers.Given as goal

-- there are so many controllers
abbrev pub invariant-loop-place : goal.invariant-loop-place
invariant-loop-place l = l.list.items ≡ replicate l._place Idle
