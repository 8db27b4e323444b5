use Rattle.std.proofs.Common.{take}
use Rattle.std.specs.Io.KnownBytes.{Appends}
use Rattle.fr_trace.specs.ReportText.{reports_from}
use Rattle.fr_trace.proofs.report.write_buffers.Given as goal

abbrev pub invariant-loop-number : goal.invariant-loop-number
invariant-loop-number g l = Appends (g.W.Write.contents l.fn.writer) (g.W.Write.contents l.writer)
    (reports_from l.interface 0 (take l.number l.interface.plan.buffers))
