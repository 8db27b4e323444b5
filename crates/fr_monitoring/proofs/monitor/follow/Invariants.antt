use Rattle.std.proofs.Common.{◌<◌, length}
use Rattle.fr_monitoring.specs.Monitoring.{ReadFront, IsFollowed}
use Rattle.fr_monitoring.proofs.monitor.follow.Given as goal

-- the bytes so far have been judged
abbrev pub invariant-pieces : goal.invariant-pieces
invariant-pieces g l =
    ReadFront (g.R.Read.remaining l.fn.reader) (g.R.Read.remaining l.reader) (λ front left.
    IsFollowed l.frames l.fn.capture l.fn.judge l.capture l.judge (g.W.Write.contents l.fn.writer)
    (g.W.Write.contents l.writer) front) × (0 < length l.room)
