use Rattle.std.proofs.Common.{◌≡◌}
use Rattle.fr_latency.specs.Below.{least_below, most_below}
use Rattle.fr_latency.specs.Loads.{demand}
use Rattle.fr_latency.proofs.load.demands.Given as goal

abbrev pub invariant-loop-number : goal.invariant-loop-number
invariant-loop-number l = record {
  fewest : l.least ≡ least_below (demand l.cluster l.channel 0) (demand l.cluster l.channel) l.number;
  most : l.most ≡ most_below (demand l.cluster l.channel) l.number;
}
