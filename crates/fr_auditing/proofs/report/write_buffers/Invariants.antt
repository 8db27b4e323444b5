use Rattle.std.specs.Io.KnownBytes.{Appends}
use Rattle.fr_auditing.specs.KeptReport.{buffer_lines}
use Rattle.fr_auditing.proofs.report.write_buffers.Given as goal

abbrev pub invariant-loop-number : goal.invariant-loop-number
invariant-loop-number g l = Appends (g.W.Write.contents l.fn.writer) (g.W.Write.contents l.writer)
    (buffer_lines l.interface l.number)
