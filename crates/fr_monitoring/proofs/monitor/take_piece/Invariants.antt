use Rattle.std.proofs.Common.{◌≤◌, ◌-◌, length, take}
use Rattle.fr_monitoring.specs.Monitoring.{IsFollowed}
use Rattle.fr_monitoring.proofs.monitor.take_piece.Given as goal

-- the bytes so far have been judged
abbrev pub invariant-loop-taken : goal.invariant-loop-taken
invariant-loop-taken g l =
    (l.taken ≤ length l.piece)
    × IsFollowed l.frames l.fn.capture l.fn.judge l.capture l.judge (g.W.Write.contents l.fn.writer)
    (g.W.Write.contents l.writer) (take l.taken l.piece)

abbrev pub decreases-loop-taken : goal.decreases-loop-taken
decreases-loop-taken g l = length l.piece - l.taken
