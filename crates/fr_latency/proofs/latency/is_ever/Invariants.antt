use Rattle.std.proofs.Common.{◌≡◌}
use Rattle.fr_latency.specs.Below.{any_below}
use Rattle.fr_latency.specs.Latencies.{is_possible}
use Rattle.fr_latency.proofs.latency.is_ever.Given as goal

abbrev pub invariant-loop-number : goal.invariant-loop-number
invariant-loop-number l = l.ever ≡ any_below (is_possible l.cluster l.plan l.buffer) l.number
