use Rattle.fr_streaming.proofs.LogTextLemmas.{IsLeft}
use Rattle.fr_streaming.proofs.log.write_left.Given as goal

-- the lines that are left are still to be written
abbrev pub invariant-loop-node : goal.invariant-loop-node
invariant-loop-node g l =
    IsLeft l.interfaces l.buffers (g.W.Write.contents l.fn.writer) (g.W.Write.contents l.writer) l.node
