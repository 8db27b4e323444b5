use Rattle.std.proofs.Common.{drop, false}
use Rattle.fr_capture.proofs.TakerLemmas.{IsGoing}
use Rattle.fr_showing.specs.Takers.{takers_by_plans}
use Rattle.fr_showing.proofs.takers.write_planned.Given as goal

-- those that are left are still to be written
abbrev pub invariant-loop-number : goal.invariant-loop-number
invariant-loop-number g l =
    IsGoing false (takers_by_plans l.sent.params.now l.sent.sealed.now l.sent.channel 0 l.plans)
    (g.W.Write.contents l.fn.writer) (g.W.Write.contents l.writer) l.any
    (takers_by_plans l.sent.params.now l.sent.sealed.now l.sent.channel l.number (drop l.number l.plans))
