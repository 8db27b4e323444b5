use Rattle.std.proofs.Common.{take}
use Rattle.fr_interface.specs.Ranges.{AreRanges, sending_slots}
use Rattle.fr_interface.proofs.index.sending_ranges.Given as goal

abbrev pub invariant-loop-place : goal.invariant-loop-place
invariant-loop-place l = AreRanges (sending_slots (take l.place l.buffers)) l.ranges.items
