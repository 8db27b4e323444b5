use Rattle.std.proofs.Common.{take}
use Rattle.fr_interface.specs.Ranges.{AreRanges, buffer_slots}
use Rattle.fr_interface.proofs.index.buffer_ranges.Given as goal

abbrev pub invariant-loop-place : goal.invariant-loop-place
invariant-loop-place l = AreRanges (buffer_slots (take l.place l.buffers)) l.ranges.items
