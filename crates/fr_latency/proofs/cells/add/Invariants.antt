use Rattle.fr_latency.specs.Cells.{IsAdded}
use Rattle.fr_latency.proofs.cells.add.Given as goal

abbrev pub invariant-loop-index : goal.invariant-loop-index
invariant-loop-index l = IsAdded l.from l.shift l.index l.mask l.initial.cells l.cells
