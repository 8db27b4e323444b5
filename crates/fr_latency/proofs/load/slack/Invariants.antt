use Rattle.std.proofs.Common.{◌≡◌, take}
use Rattle.fr_latency.specs.Loads.{least_of, spare_of}
use Rattle.fr_latency.proofs.load.slack.Given as goal

abbrev pub invariant-loop-node : goal.invariant-loop-node
invariant-loop-node l = l.least
    ≡ least_of (spare_of l.cluster l.channel) l.cluster.params.minislots (take l.node l.cluster.plans)
