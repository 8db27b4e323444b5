use Rattle.std.specs.Io.KnownBytes.{Appends}
use Rattle.fr_monitoring.specs.SummaryText.{slots_text}
use Rattle.fr_monitoring.proofs.summary.write_slots.Given as goal

-- the lines so far
abbrev pub invariant-loop-earlier : goal.invariant-loop-earlier
invariant-loop-earlier g l = Appends (g.W.Write.contents l.fn.writer) (g.W.Write.contents l.writer)
    (slots_text l.judge l.earlier)
