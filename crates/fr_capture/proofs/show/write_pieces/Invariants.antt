use Rattle.fr_capture.proofs.ShowLemmas.{IsShown}
use Rattle.fr_capture.proofs.show.write_pieces.Given as goal

abbrev pub invariant-loop-number : goal.invariant-loop-number
invariant-loop-number g l =
    IsShown l.form l.interface l.journal.entries l.number (g.W.Write.contents l.fn.writer)
    (g.W.Write.contents l.writer) l.piece.items l.last
