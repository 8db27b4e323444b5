use Rattle.fr_picture.specs.Guards.{AreGuardRows}
use Rattle.fr_picture.specs.Owners.{Adds}
use Rattle.fr_picture.proofs.guards.write_guards.Given as goal

abbrev pub invariant-loop-number : goal.invariant-loop-number
invariant-loop-number g l = Adds (AreGuardRows l.guardian l.cycle l.number) (g.W.Write.contents l.fn.writer)
    (g.W.Write.contents l.writer)
