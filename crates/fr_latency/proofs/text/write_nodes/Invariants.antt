use Rattle.fr_files.proofs.NodeTextLemmas.{AreNodes}
use Rattle.fr_latency.specs.LatencyText.{node_text}
use Rattle.fr_latency.proofs.text.write_nodes.Given as goal

abbrev pub invariant-loop-node : goal.invariant-loop-node
invariant-loop-node g l = AreNodes (node_text l.cluster) l.cluster.plans l.node
    (g.W.Write.contents l.fn.writer) (g.W.Write.contents l.writer)
