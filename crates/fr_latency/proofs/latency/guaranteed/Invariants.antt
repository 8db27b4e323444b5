use Rattle.std.proofs.Common.{◌≡◌, ℕ, ◌<◌, length, get_or, false}
use Rattle.fr_latency.specs.Latencies.{is_guaranteed}
use Rattle.fr_latency.proofs.latency.guaranteed.Given as goal

abbrev pub invariant-loop-number : goal.invariant-loop-number
invariant-loop-number l = record {
  size : length l.answers ≡ 64;
  each : (k : ℕ) → k < l.number → get_or l.answers k false ≡ is_guaranteed l.cluster l.plan l.buffer k;
}
