use Rattle.fr_picture.specs.Owners.{Adds, AreOwnerTexts}
use Rattle.fr_picture.proofs.owners.write_owners.Given as goal

abbrev pub invariant-loop-earlier : goal.invariant-loop-earlier
invariant-loop-earlier g l = Adds (AreOwnerTexts l.cluster l.cycle l.earlier) (g.W.Write.contents l.fn.writer)
    (g.W.Write.contents l.writer)
