use Rattle.std.proofs.KnownBytes.{Appends-nil}
use Rattle.fr_matrix.specs.Cells.{sent_on}
use Rattle.fr_trace.proofs.WritingLemmas.{written-more}
use Rattle.fr_matrix.proofs.cell.write_all_sent.Goals as goal

pub loop-sent-init : goal.loop-sent-init
loop-sent-init g c = Appends-nil (g.W.Write.contents c.args.writer.now)

pub loop-sent-preserved : goal.loop-sent-preserved
loop-sent-preserved g c =
    written-more (sent_on c.args.channel) c.args.all.now c.loop-sent.sent-index c.sent-item.result
    (g.W.Write.contents c.args.writer.now) (g.W.Write.contents c.loop-sent.writer)
    (g.W.Write.contents c.write_sent_on.new.writer) c.loop-sent-test.true c.sent-item.is c.loop-sent.invariant
    c.in_ok-write_sent_on.ensures
