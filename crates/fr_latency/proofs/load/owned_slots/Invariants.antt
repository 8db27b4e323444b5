use Rattle.std.proofs.Common.{◌≡◌, ◌≤◌, ◌+◌, ◌*◌}
use Rattle.fr_latency.specs.Below.{sum_below}
use Rattle.fr_latency.specs.Loads.{owned_cycles}
use Rattle.fr_latency.proofs.load.owned_slots.Given as goal

abbrev pub invariant-loop-earlier : goal.invariant-loop-earlier
invariant-loop-earlier l = record {
  few : l.sum ≤ 64 * l.earlier;
  same : l.sum ≡ sum_below (λ earlier. owned_cycles l.cluster l.channel (earlier + 1)) l.earlier;
}
