use Rattle.fr_files.proofs.NodeTextLemmas.{AreNodes}
use Rattle.fr_latency.specs.LatencyText.{buffer_text}
use Rattle.fr_latency.proofs.text.write_node.Given as goal

abbrev pub invariant-loop-number : goal.invariant-loop-number
invariant-loop-number g l = AreNodes (buffer_text l.cluster l.node l.plan) l.plan.buffers l.number
    (g.W.Write.contents l.fn.writer) (g.W.Write.contents l.writer)
