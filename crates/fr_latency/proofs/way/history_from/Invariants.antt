use Rattle.std.proofs.Common.{◌+◌}
use Rattle.fr_latency.specs.Cells.{HasBits}
use Rattle.fr_latency.specs.Marks.{AreMarks}
use Rattle.fr_latency.specs.Openings.{can_begin}
use Rattle.fr_latency.proofs.way.history_from.Given as goal

-- the marks of the slots so far, and the minislots at which the last of them can begin
abbrev pub invariant-loop-earlier : goal.invariant-loop-earlier
invariant-loop-earlier l = record {
  marks : AreMarks l.cluster l.channel l.cycle l.earlier l.history.items;
  begins : HasBits (l.earlier + 1) (λ cycle minislot. can_begin l.cluster l.channel cycle l.earlier minislot) l.before;
}
