use Rattle.std.proofs.Common.{take}
use Rattle.fr_slots.specs.Sharing.{IsFirst, is_shared_with}
use Rattle.fr_slots.proofs.sharing.first_shared_with.Given as goal

abbrev pub invariant-loop-other : goal.invariant-loop-other
invariant-loop-other l = IsFirst (is_shared_with l.filter (take l.other-index l.others)) l.first
