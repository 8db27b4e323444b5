use Rattle.std.proofs.Common.{take}
use Rattle.std.specs.Io.KnownBytes.{Appends}
use Rattle.fr_monitoring.specs.LineText.{lines_text}
use Rattle.fr_monitoring.proofs.line.write_each.Given as goal

-- the lines so far
abbrev pub invariant-loop-line : goal.invariant-loop-line
invariant-loop-line g l = Appends (g.W.Write.contents l.fn.writer) (g.W.Write.contents l.writer)
    (lines_text (take l.line-index l.lines))
