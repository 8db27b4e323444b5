use Rattle.std.proofs.Common.{take}
use Rattle.std.specs.Io.KnownBytes.{Appends}
use Rattle.fr_streaming.specs.LogSteps.{sent_from}
use Rattle.fr_streaming.proofs.log.write_sent.Given as goal

-- the lines of the nodes so far
abbrev pub invariant-loop-node : goal.invariant-loop-node
invariant-loop-node g l =
    Appends (g.W.Write.contents l.fn.writer) (g.W.Write.contents l.writer)
    (sent_from l.cluster l.sealed l.cycle 0 (take l.node l.offers))
