use Rattle.std.proofs.Common.{take}
use Rattle.fr_slots.specs.Sharing.{IsFirst, is_shared}
use Rattle.fr_slots.proofs.sharing.first_shared.Given as goal

abbrev pub invariant-loop-number : goal.invariant-loop-number
invariant-loop-number l = IsFirst (is_shared (take l.number l.filters)) l.first
