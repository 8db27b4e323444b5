use Rattle.std.proofs.Common.{◌≡◌, false, take}
use Rattle.std.specs.List.{list_any}
use Rattle.fr_slots.specs.Faults.{sends_at}
use Rattle.fr_latency.proofs.way.is_admitted_by.Given as goal

abbrev pub invariant-loop-buffer : goal.invariant-loop-buffer
invariant-loop-buffer l = list_any (sends_at l.slot l.channel l.cycle) (take l.buffer-index l.plan.buffers) ≡ false
