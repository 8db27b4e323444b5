use Rattle.std.proofs.Common.{arith}
use Rattle.fr_streaming.proofs.LogTextLemmas.{sent_all, sent_more}
use Rattle.fr_streaming.proofs.log.write_sent.Goals as goal

pub loop-node-preserved : goal.loop-node-preserved
loop-node-preserved g c =
    sent_more c.args.cluster.now c.args.sealed.now c.args.cycle c.loop-node.node c.args.offers.now _
    (g.W.Write.contents c.args.writer.now) (g.W.Write.contents c.loop-node.writer)
    (g.W.Write.contents c.write_sent_at.new.writer) c.loop-node-test.true c.loop-node.invariant
    c.in_ok-write_sent_at.ensures

pub returns : goal.returns
returns g c =
    sent_all c.args.cluster.now c.args.sealed.now c.args.cycle c.loop-node.node c.args.offers.now
    (g.W.Write.contents c.args.writer.now) (g.W.Write.contents c.loop-node.writer)
    (omega (arith, c.loop-node-test.false)) c.loop-node.invariant
