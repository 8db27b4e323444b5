use Rattle.fr_files.proofs.NodeTextLemmas.{AreNodes}
use Rattle.fr_openings.specs.Openings.{buffer_text}
use Rattle.fr_openings.proofs.openings.write_node.Given as goal

-- the buffers so far
abbrev pub invariant-loop-number : goal.invariant-loop-number
invariant-loop-number g l =
    AreNodes (buffer_text l.params l.cycle l.window l.last l.plan l.node) l.plan.buffers l.number
    (g.W.Write.contents l.fn.writer) (g.W.Write.contents l.writer)
