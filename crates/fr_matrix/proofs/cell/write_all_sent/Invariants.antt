use Rattle.std.proofs.Common.{take}
use Rattle.std.specs.Io.KnownBytes.{Appends}
use Rattle.std.specs.List.{flat_map}
use Rattle.fr_matrix.specs.Cells.{sent_on}
use Rattle.fr_matrix.proofs.cell.write_all_sent.Given as goal

-- the transmissions so far
abbrev pub invariant-loop-sent : goal.invariant-loop-sent
invariant-loop-sent g l =
    Appends (g.W.Write.contents l.fn.writer) (g.W.Write.contents l.writer)
    (flat_map (sent_on l.channel) (take l.sent-index l.all))
