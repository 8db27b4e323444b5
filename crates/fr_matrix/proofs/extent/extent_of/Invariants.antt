use Rattle.std.proofs.Common.{take}
use Rattle.fr_matrix.proofs.ExtentLemmas.{Measured}
use Rattle.fr_matrix.proofs.extent.extent_of.Given as goal

-- the extent so far
abbrev pub invariant-loop-sealed : goal.invariant-loop-sealed
invariant-loop-sealed l =
    Measured l.view (take l.sealed-index l.recorded) l.cycles l.windows l.most l.busy l.sealed-index
