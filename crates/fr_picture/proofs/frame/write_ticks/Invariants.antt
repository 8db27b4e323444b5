use Rattle.std.proofs.Common.{take}
use Rattle.fr_picture.proofs.TickLemmas.{AreTicks}
use Rattle.fr_picture.proofs.frame.write_ticks.Given as goal

abbrev pub invariant-loop-macrotick : goal.invariant-loop-macrotick
invariant-loop-macrotick g l =
    AreTicks l.params (take l.macrotick-index l.macroticks) l.from (g.W.Write.contents l.fn.writer)
    (g.W.Write.contents l.writer)
