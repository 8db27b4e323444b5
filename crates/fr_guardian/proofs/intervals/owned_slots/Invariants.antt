use Rattle.std.proofs.Common.{take}
use Rattle.fr_guardian.specs.GuardianFields.{AreOwnedSlots}
use Rattle.fr_guardian.proofs.intervals.owned_slots.Given as goal

abbrev pub invariant-loop-own : goal.invariant-loop-own
invariant-loop-own l = AreOwnedSlots (take l.own-index l.owned) l.cycle l.channel l.slots
