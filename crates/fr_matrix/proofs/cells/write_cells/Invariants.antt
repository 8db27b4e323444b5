use Rattle.std.proofs.Common.{take}
use Rattle.std.specs.Io.KnownBytes.{Appends}
use Rattle.fr_matrix.specs.Cells.{cells_text}
use Rattle.fr_matrix.proofs.MatrixLemmas.{Counted}
use Rattle.fr_matrix.proofs.cells.write_cells.Given as goal

-- the cells so far
abbrev pub invariant-loop-sealed : goal.invariant-loop-sealed
invariant-loop-sealed g l =
    Counted (take l.sealed-index l.recorded) l.cycles l.windows l.sealed-index
    × Appends (g.W.Write.contents l.fn.writer) (g.W.Write.contents l.writer)
    (cells_text l.params l.view l.extent.grid l.extent.columns (take l.sealed-index l.recorded))
