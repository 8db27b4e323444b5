use Rattle.std.proofs.Common.{◌≡◌, ℕ, ◌<◌, length, get_or}
use Rattle.fr_latency.specs.Latencies.{latest_end}
use Rattle.fr_latency.proofs.latency.ends.Given as goal

abbrev pub invariant-loop-number : goal.invariant-loop-number
invariant-loop-number l = record {
  size : length l.ends ≡ 64;
  each : (k : ℕ) → k < l.number → get_or l.ends k 0 ≡ latest_end l.cluster l.buffer k;
}
