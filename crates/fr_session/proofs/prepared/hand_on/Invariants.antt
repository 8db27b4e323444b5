use Rattle.std.proofs.Common.{◌≤◌, length, take}
use Rattle.std.specs.Io.KnownBytes.{Appends}
use Rattle.fr_session.proofs.prepared.hand_on.Given as goal

-- the bytes so far
abbrev pub invariant-loop : goal.invariant-loop
invariant-loop g l =
    (l.count ≤ length l.text)
    × Appends (g.W.Write.contents l.fn.writer) (g.W.Write.contents l.writer) (take l.count l.text)
