use Rattle.std.proofs.Common.{◌≡◌, None, replicate}
use Rattle.fr_endless.proofs.keeping.new_texts.Given as goal

-- there are so many places
abbrev pub invariant-loop-place : goal.invariant-loop-place
invariant-loop-place l = l.texts.items ≡ replicate l._place None
