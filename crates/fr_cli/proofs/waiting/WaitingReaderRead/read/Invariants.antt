use Rattle.std.specs.Io.KnownBytes.{Keeps}
use Rattle.fr_cli.proofs.waiting.WaitingReaderRead.read.Given as goal

-- a call that would block leaves the remaining bytes as they were
abbrev pub invariant-loop : goal.invariant-loop
invariant-loop g l = Keeps (g.R.Read.remaining l.fn.self) (g.R.Read.remaining l.self-inside.reader)
