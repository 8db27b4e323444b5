use Rattle.std.proofs.Common.{◌≡◌, ◌≤◌}
use Rattle.fr_latency.specs.Below.{count_below}
use Rattle.fr_latency.specs.Loads.{has_owner}
use Rattle.fr_latency.proofs.load.owned_cycles.Given as goal

abbrev pub invariant-loop-number : goal.invariant-loop-number
invariant-loop-number l = record {
  few : l.count ≤ l.number;
  same : l.count ≡ count_below (has_owner l.cluster.plans l.slot l.channel) l.number;
}
