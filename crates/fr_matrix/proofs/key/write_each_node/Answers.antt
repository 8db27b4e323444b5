use Rattle.std.proofs.Common.{◌≡◌, ◌+◌, arith}
use Rattle.fr_matrix.specs.Pages.{node_text}
use Rattle.fr_svg.proofs.NumberedLemmas.{number-more}
use Rattle.fr_matrix.proofs.key.write_each_node.Goals as goal

pub loop-node-preserved : goal.loop-node-preserved
loop-node-preserved g c =
    let same : c.loop-node.node ≡ 0 + c.loop-node.node = omega arith in
    number-more (node_text c.args.top) 0 c.loop-node.node c.loop-node.node (g.W.Write.contents c.args.writer.now)
    (g.W.Write.contents c.loop-node.writer) (g.W.Write.contents c.write_node.new.writer) same c.loop-node.invariant
    c.in_ok-write_node.ensures
