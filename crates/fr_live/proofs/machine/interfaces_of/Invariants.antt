use Rattle.std.proofs.Common.{map, take}
use Rattle.fr_live.specs.LiveWorlds.{AreHistories, new_with}
use Rattle.fr_live.proofs.machine.interfaces_of.Given as goal

-- the data of the interfaces of the plans so far
abbrev pub invariant-loop-plan : goal.invariant-loop-plan
invariant-loop-plan l = AreHistories l.list.items (map (new_with l.fn.params l.fn.room) (take l.plan-index l.plans))
