use Rattle.std.specs.Io.KnownBytes.{Keeps}
use Rattle.fr_cli.proofs.waiting.WaitingWriterWrite.write.Given as goal

-- a call that would block leaves the contents as they were
abbrev pub invariant-loop : goal.invariant-loop
invariant-loop g l = Keeps (g.W.Write.contents l.fn.self) (g.W.Write.contents l.self-inside.writer)
