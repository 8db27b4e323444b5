use Rattle.std.proofs.Common.{◌≡◌, length}
use Rattle.fr_trace.proofs.PieceLemmas.{ReadSoFar}
use Rattle.fr_trace.proofs.audit.read_through.Given as goal

abbrev pub invariant-pieces : goal.invariant-pieces
invariant-pieces g l = ReadSoFar (g.R.Read.remaining l.fn.reader) (g.R.Read.remaining l.reader) l.auditor ×
    (length l.room ≡ 4096)
