use Rattle.fr_files.proofs.NodeTextLemmas.{AreNodes}
use Rattle.fr_streaming.specs.Received.{node_text}
use Rattle.fr_streaming.proofs.received.write_nodes.Given as goal

-- the nodes so far
abbrev pub invariant-loop-number : goal.invariant-loop-number
invariant-loop-number g l =
    AreNodes (node_text l.params l.cycle l.sealed) l.plans l.number (g.W.Write.contents l.fn.writer)
    (g.W.Write.contents l.writer)
