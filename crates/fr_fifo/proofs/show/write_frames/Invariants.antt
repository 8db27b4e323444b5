use Rattle.fr_fifo.proofs.TextLemmas.{IsAlong}
use Rattle.fr_fifo.proofs.show.write_frames.Given as goal

abbrev pub invariant-loop-number : goal.invariant-loop-number
invariant-loop-number g l =
    IsAlong l.interface l.queue l.journal.entries l.number (g.W.Write.contents l.fn.writer)
    (g.W.Write.contents l.writer) l.running
