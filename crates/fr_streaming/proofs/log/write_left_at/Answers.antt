use Rattle.fr_streaming.proofs.LogTextLemmas.{left_more}
use Rattle.fr_streaming.specs.CommitLog.{pending_text}
use Rattle.std.proofs.Common.{subst}
use Rattle.std.specs.Io.KnownBytes.{Appends}
use Rattle.fr_streaming.proofs.log.write_left_at.Goals as goal

pub loop-buffer-preserved : goal.loop-buffer-preserved
loop-buffer-preserved g c =
    left_more c.args.node c.args.interface.now c.loop-buffer.buffer (g.W.Write.contents c.args.writer.now)
    (g.W.Write.contents c.loop-buffer.writer) (g.W.Write.contents c.write_pending.new.writer) c.loop-buffer.invariant
    (subst
    (λ commit. Appends (g.W.Write.contents c.loop-buffer.writer) (g.W.Write.contents c.write_pending.new.writer)
    (pending_text c.args.node commit)) c.pending.ensures.value c.in_ok-write_pending.ensures)
