use Rattle.std.proofs.Common.{◌≡◌}
use Rattle.fr_judging.specs.DueTable.{due_list}
use Rattle.fr_judging.proofs.dues.all_dues.Given as goal

-- the places so far
abbrev pub invariant-loop-place : goal.invariant-loop-place
invariant-loop-place l = l.dues.items ≡ due_list l.rules.cluster l.width l.place
