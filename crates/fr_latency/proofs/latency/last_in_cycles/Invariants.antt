use Rattle.std.proofs.Common.{◌≡◌}
use Rattle.std.specs.Prelude.{if◌then◌else◌}
use Rattle.fr_slots.specs.Admission.{cycle_admitted}
use Rattle.fr_latency.specs.Below.{most_below}
use Rattle.fr_latency.specs.Latencies.{last_opening_of}
use Rattle.fr_latency.proofs.latency.last_in_cycles.Given as goal

-- the greatest of the cycles so far
abbrev pub invariant-loop-number : goal.invariant-loop-number
invariant-loop-number l = l.most
    ≡ most_below (λ cycle. if cycle_admitted l.buffer.filter.cycles cycle then last_opening_of l.cluster l.buffer cycle
    else 0) l.number
