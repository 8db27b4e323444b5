use Rattle.fr_files.proofs.NodeTextLemmas.{AreNodes}
use Rattle.fr_openings.specs.Openings.{node_text}
use Rattle.fr_openings.proofs.openings.write_nodes.Given as goal

-- the nodes so far
abbrev pub invariant-loop-node : goal.invariant-loop-node
invariant-loop-node g l =
    AreNodes (node_text l.cluster.params l.cycle l.window l.last) l.cluster.plans l.node
    (g.W.Write.contents l.fn.writer) (g.W.Write.contents l.writer)
