use Rattle.fr_endless.proofs.OutcomeLemmas.{AreKept}
use Rattle.fr_endless.proofs.outcome.write_nodes.Given as goal

-- the nodes so far
abbrev pub invariant-loop-node : goal.invariant-loop-node
invariant-loop-node g l =
    AreKept l.fn.world l.node (g.W.Write.contents l.fn.writer) (g.W.Write.contents l.writer)
