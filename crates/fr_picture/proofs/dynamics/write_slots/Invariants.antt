use Rattle.fr_picture.proofs.ShareLemmas.{AreWritten}
use Rattle.fr_picture.specs.Dynamics.{IsSlotText}
use Rattle.fr_picture.proofs.dynamics.write_slots.Given as goal

abbrev pub invariant-loop-earlier : goal.invariant-loop-earlier
invariant-loop-earlier g l = AreWritten l.cluster l.cycle l.channel (IsSlotText l.cluster l.cycle l.channel) l.earlier
    l.before (g.W.Write.contents l.fn.writer) (g.W.Write.contents l.writer)
