use Rattle.fr_latency.proofs.CellLemmas.{IsMaskBelow}
use Rattle.fr_latency.proofs.cells.mask_of.Given as goal

-- the bits of the cycles so far
abbrev pub invariant-loop-number : goal.invariant-loop-number
invariant-loop-number l = IsMaskBelow l.cycles l.number l.mask
