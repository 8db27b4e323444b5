use Rattle.fr_session.proofs.LineLemmas.{FrontSoFar}
use Rattle.fr_session.proofs.lines.next_line.Given as goal

-- the pieces so far
abbrev pub invariant-loop : goal.invariant-loop
invariant-loop g l = FrontSoFar (g.R.Read.remaining l.fn.reader) (g.R.Read.remaining l.reader) l.line.items
