use Rattle.std.proofs.Common.{◌≡◌, map, take}
use Rattle.fr_latency.specs.Cells.{has_bit}
use Rattle.fr_latency.proofs.way.marks_of.Given as goal

abbrev pub invariant-loop-cell : goal.invariant-loop-cell
invariant-loop-cell l = l.marks.items ≡ map (λ cell. has_bit cell l.fn.cycle) (take l.cell-index l.cells)
