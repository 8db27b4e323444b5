use Rattle.std.proofs.Common.{◌≡◌, ◌≤◌, length, take}
use Rattle.fr_slots.specs.Sharing.{transmit_filters}
use Rattle.fr_slots.proofs.fault.transmit_filters.Given as goal

abbrev pub invariant-loop-buffer : goal.invariant-loop-buffer
invariant-loop-buffer l = record {
  few : length l.filters.items ≤ l.buffer-index;
  all : l.filters.items ≡ transmit_filters (take l.buffer-index l.buffers);
}
