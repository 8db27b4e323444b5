use Rattle.std.proofs.Common.{◌≡◌}
use Rattle.fr_latency.specs.Below.{least_below}
use Rattle.fr_latency.specs.Loads.{spare_in}
use Rattle.fr_latency.proofs.load.spare.Given as goal

abbrev pub invariant-loop-number : goal.invariant-loop-number
invariant-loop-number l = l.least
    ≡ least_below l.cluster.params.minislots (spare_in l.cluster l.channel l.plan l.buffer) l.number
