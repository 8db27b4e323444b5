use Rattle.std.proofs.Common.{◌+◌}
use Rattle.fr_latency.specs.Cells.{HasBits}
use Rattle.fr_latency.specs.Openings.{can_begin}
use Rattle.fr_latency.proofs.way.skip.Given as goal

abbrev pub invariant-loop-earlier : goal.invariant-loop-earlier
invariant-loop-earlier l =
    HasBits (l.earlier + 1) (λ cycle minislot. can_begin l.cluster l.channel cycle l.earlier minislot) l.before
