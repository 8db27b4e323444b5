use Rattle.fr_cli.proofs.NodeLemmas.{SoFar}
use Rattle.fr_cli.proofs.nodes.nodes_of.Given as goal

abbrev pub invariant-loop-place : goal.invariant-loop-place
invariant-loop-place l = SoFar l.word l.place l.nodes
