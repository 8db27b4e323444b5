use Rattle.std.proofs.Common.{◌≡◌, ◌≤◌, ◌+◌, ◌*◌}
use Rattle.fr_matrix.specs.Places.{across}
use Rattle.fr_matrix.proofs.grid.across.Given as goal

abbrev pub invariant-loop-place : goal.invariant-loop-place
invariant-loop-place l = (l.left ≡ across l.grid l.place) × (l.left ≤ 70 + 22 * l.place)
