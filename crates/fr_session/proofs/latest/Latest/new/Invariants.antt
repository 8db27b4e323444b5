use Rattle.std.proofs.Common.{◌≡◌, None, replicate}
use Rattle.fr_session.proofs.latest.Latest.new.Given as goal

-- there are so many places
abbrev pub invariant-loop-place : goal.invariant-loop-place
invariant-loop-place l = l.entries.items ≡ replicate l._place None
