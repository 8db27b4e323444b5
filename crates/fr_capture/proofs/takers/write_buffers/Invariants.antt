use Rattle.std.proofs.Common.{drop}
use Rattle.fr_capture.proofs.TakerLemmas.{IsGoing}
use Rattle.fr_capture.specs.TakerSteps.{buffers_by}
use Rattle.fr_capture.proofs.takers.write_buffers.Given as goal

-- the buffers that are left are still to be written
abbrev pub invariant-loop-number : goal.invariant-loop-number
invariant-loop-number g l =
    let o = l.observed in
    IsGoing l.fn.any (buffers_by o.window.now o.came.a o.came.b o.channel o.node 0 l.lines)
    (g.W.Write.contents l.fn.writer) (g.W.Write.contents l.writer) l.any
    (buffers_by o.window.now o.came.a o.came.b o.channel o.node l.number (drop l.number l.lines))
