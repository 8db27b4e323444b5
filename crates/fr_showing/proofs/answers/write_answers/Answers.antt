use Rattle.std.proofs.KnownBytes.{Appends-nil}
use Rattle.fr_showing.specs.AnswerText.{answer_line}
use Rattle.fr_trace.proofs.WritingLemmas.{written-more}
use Rattle.fr_showing.proofs.answers.write_answers.Goals as goal

pub loop-call-init : goal.loop-call-init
loop-call-init g c = Appends-nil (g.W.Write.contents c.args.writer.now)

pub loop-call-preserved : goal.loop-call-preserved
loop-call-preserved g c =
    written-more (answer_line c.args.world.now) c.args.calls.now c.loop-call.call-index c.call-item.result
    (g.W.Write.contents c.args.writer.now) (g.W.Write.contents c.loop-call.writer)
    (g.W.Write.contents c.write_call.new.writer) c.loop-call-test.true c.call-item.is c.loop-call.invariant
    c.in_ok-write_call.ensures
