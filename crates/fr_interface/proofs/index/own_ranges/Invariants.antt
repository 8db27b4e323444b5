use Rattle.std.proofs.Common.{take}
use Rattle.fr_interface.specs.Ranges.{AreRanges, own_slots}
use Rattle.fr_interface.proofs.index.own_ranges.Given as goal

abbrev pub invariant-loop-place : goal.invariant-loop-place
invariant-loop-place l = AreRanges (own_slots (take l.place l.owned)) l.ranges.items
