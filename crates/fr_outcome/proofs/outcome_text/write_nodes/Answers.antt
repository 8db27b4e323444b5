use Rattle.std.proofs.Common.{refl}
use Rattle.std.proofs.lemmas.Option.{slice_get_read}
use Rattle.fr_files.proofs.NodeTextLemmas.{no_node, one_node}
use Rattle.fr_outcome.specs.OutcomeText.{node_text}
use Rattle.fr_outcome.proofs.outcome_text.write_nodes.Goals as goal

pub loop-node-init : goal.loop-node-init
loop-node-init g c = no_node node_text c.args.interfaces.now (g.W.Write.contents c.args.writer.now)

pub loop-node-preserved : goal.loop-node-preserved
loop-node-preserved g c =
    let here = c.index-interfaces-node.result in
    one_node node_text c.args.interfaces.now c.loop-node.node here (g.W.Write.contents c.args.writer.now)
    (g.W.Write.contents c.loop-node.writer) (g.W.Write.contents c.write_node.new.writer)
    (slice_get_read c.args.interfaces.now _ c.loop-node.node here refl c.loop-node-test.true c.index-interfaces-node.is)
    c.loop-node.invariant c.in_ok-write_node.ensures
