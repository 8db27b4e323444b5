use Rattle.std.proofs.Common.{◌≡◌, ◌≤◌, ◌*◌, take}
use Rattle.std.specs.List.{sum_by}
use Rattle.fr_latency.specs.Loads.{demand_of}
use Rattle.fr_latency.proofs.load.demand.Given as goal

abbrev pub invariant-loop-plan : goal.invariant-loop-plan
invariant-loop-plan l = record {
  few : l.sum ≤ 19200 * l.plan-index;
  same : l.sum ≡ sum_by (demand_of l.cluster.params l.channel l.cycle) (take l.plan-index l.cluster.plans);
}
