use Rattle.std.proofs.Common.{◌≡◌, ◌≤◌}
use Rattle.std.specs.Prelude.{slice_index}
use Rattle.fr_latency.specs.Cells.{has_bit}
use Rattle.fr_latency.specs.Openings.{greatest}
use Rattle.fr_latency.proofs.cells.greatest.Given as goal

-- no later place has the bit
abbrev pub invariant-loop-place : goal.invariant-loop-place
invariant-loop-place l = record {
  few : l.place ≤ l.most;
  same : greatest (λ index. has_bit (slice_index l.cells index) l.cycle) l.most
      ≡ greatest (λ index. has_bit (slice_index l.cells index) l.cycle) l.place;
}

abbrev pub decreases-loop-place : goal.decreases-loop-place
decreases-loop-place l = l.place
