use Rattle.std.specs.Io.KnownBytes.{Appends}
use Rattle.fr_streaming.specs.LogSteps.{left_at}
use Rattle.fr_streaming.proofs.log.write_left_at.Given as goal

-- the lines of the buffers so far
abbrev pub invariant-loop-buffer : goal.invariant-loop-buffer
invariant-loop-buffer g l =
    Appends (g.W.Write.contents l.fn.writer) (g.W.Write.contents l.writer) (left_at l.node l.interface l.buffer)
