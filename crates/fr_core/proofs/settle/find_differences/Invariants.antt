use Rattle.fr_core.specs.Walks.{AreDifferences}
use Rattle.fr_core.proofs.settle.find_differences.Given as goal

-- the findings of the nodes so far
abbrev pub invariant-loop-number : goal.invariant-loop-number
invariant-loop-number l = AreDifferences l.params l.interfaces l.recorded l.scripts l.number l.all
