use Rattle.fr_picture.proofs.ShareLemmas.{AreWritten}
use Rattle.fr_picture.specs.Ranges.{IsRangeText}
use Rattle.fr_picture.proofs.ranges.write_ranges.Given as goal

abbrev pub invariant-loop-earlier : goal.invariant-loop-earlier
invariant-loop-earlier g l = AreWritten l.cluster l.cycle l.channel (IsRangeText l.cluster l.cycle l.channel) l.earlier
    l.before (g.W.Write.contents l.fn.writer) (g.W.Write.contents l.writer)
