use Rattle.std.proofs.Common.{◌≡◌, map, take}
use Rattle.fr_core.specs.Worlds.{new_interface}
use Rattle.fr_core.proofs.machine.interfaces_of.Given as goal

-- the interfaces of the plans so far
abbrev pub invariant-loop-plan : goal.invariant-loop-plan
invariant-loop-plan l = l.list.items ≡ map (new_interface l.fn.params) (take l.plan-index l.plans)
