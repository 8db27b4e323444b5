use Rattle.fr_showing.proofs.CommitLemmas.{node_more}
use Rattle.fr_showing.proofs.commits.write_commits.Goals as goal

pub loop-node-preserved : goal.loop-node-preserved
loop-node-preserved g c =
    node_more c.args.world.now c.loop-node.node c.index-interfaces-node.result c.interfaces-interfaces.result.now
    (g.W.Write.contents c.args.writer.now)
    (g.W.Write.contents c.loop-node.writer) (g.W.Write.contents c.write_node.new.writer)
    c.interfaces-interfaces.ensures.value c.loop-node-test.true c.index-interfaces-node.is
    c.loop-node.invariant c.in_ok-write_node.ensures
