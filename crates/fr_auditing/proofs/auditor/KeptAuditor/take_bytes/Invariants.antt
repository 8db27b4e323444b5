use Rattle.std.proofs.Common.{◌≡◌, ℕ, List, ◌++◌, length}
use Rattle.fr_auditing.specs.Tracking.{ReadsOn}
use Rattle.fr_auditing.proofs.auditor.KeptAuditor.take_bytes.Given as goal

-- the lines so far have been taken, and the rest is left
abbrev pub invariant-loop-at : goal.invariant-loop-at
invariant-loop-at l = (front : List ℕ) × (front ++ l.rest ≡ l.piece) × ReadsOn l.fn.self front l.self

abbrev pub decreases-loop-at : goal.decreases-loop-at
decreases-loop-at l = length l.rest
