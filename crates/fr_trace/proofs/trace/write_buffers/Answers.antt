use Rattle.std.proofs.KnownBytes.{Appends-nil}
use Rattle.fr_trace.specs.TraceText.{buffer_line}
use Rattle.fr_trace.proofs.WritingLemmas.{written-more}
use Rattle.fr_trace.proofs.trace.write_buffers.Goals as goal

pub loop-buffer-init : goal.loop-buffer-init
loop-buffer-init g c = Appends-nil (g.W.Write.contents c.args.writer.now)

pub loop-buffer-preserved : goal.loop-buffer-preserved
loop-buffer-preserved g c =
    written-more buffer_line c.args.buffers.now c.loop-buffer.buffer-index c.buffer-item.result
    (g.W.Write.contents c.args.writer.now) (g.W.Write.contents c.loop-buffer.writer)
    (g.W.Write.contents c.write_buffer.new.writer)
    c.loop-buffer-test.true c.buffer-item.is c.loop-buffer.invariant c.in_ok-write_buffer.ensures
