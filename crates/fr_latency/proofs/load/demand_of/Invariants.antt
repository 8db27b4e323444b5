use Rattle.std.proofs.Common.{◌≡◌, ◌≤◌, ◌*◌, take}
use Rattle.std.specs.List.{sum_by}
use Rattle.fr_latency.specs.Loads.{length_in}
use Rattle.fr_latency.proofs.load.demand_of.Given as goal

abbrev pub invariant-loop-buffer : goal.invariant-loop-buffer
invariant-loop-buffer l = record {
  few : l.sum ≤ 300 * l.buffer-index;
  same : l.sum ≡ sum_by (length_in l.params l.channel l.cycle) (take l.buffer-index l.plan.buffers);
}
