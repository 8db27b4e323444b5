use Rattle.std.proofs.Common.{◌≡◌, replicate}
use Rattle.fr_judging.specs.Judging.{not_shown}
use Rattle.fr_judging.proofs.ends.none_shown.Given as goal

-- the places so far
abbrev pub invariant-loop-place : goal.invariant-loop-place
invariant-loop-place l = l.shown.items ≡ replicate l.place not_shown
