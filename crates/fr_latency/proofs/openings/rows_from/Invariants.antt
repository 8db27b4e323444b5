use Rattle.std.proofs.Common.{◌≡◌, ℕ, ◌+◌, length, slice_get, Some, true}
use Rattle.fr_latency.specs.declared.openings.Row.{Row}
use Rattle.fr_latency.specs.Cells.{HasBits}
use Rattle.fr_latency.specs.Openings.{can_begin, is_used, slot_after}
use Rattle.fr_latency.specs.Rows.{IsRow}
use Rattle.fr_latency.proofs.openings.rows_from.Given as goal

-- the rows of the slots so far, and the minislots at which the next slot can begin
abbrev pub invariant-loop-earlier : goal.invariant-loop-earlier
invariant-loop-earlier l = record {
  size : length l.rows.items ≡ l.earlier;
  each : (earlier : ℕ) (row : Row) → slice_get l.rows.items earlier ≡ Some row
      → is_used l.cluster.plans (slot_after l.cluster.params earlier) l.channel ≡ true
      → IsRow l.cluster l.channel earlier row;
  begins : HasBits (l.earlier + 1) (λ cycle minislot. can_begin l.cluster l.channel cycle l.earlier minislot)
      l.before;
}
