use Rattle.std.proofs.Common.{◌≡◌, take}
use Rattle.fr_endless.specs.Alike.{buffers_in}
use Rattle.fr_endless.proofs.world.buffers_of.Given as goal

abbrev pub invariant-loop-plan : goal.invariant-loop-plan
invariant-loop-plan l = l.buffers.items ≡ buffers_in (take l.plan-index l.plans)
