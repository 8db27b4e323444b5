use Rattle.std.proofs.Common.{◌≡◌, ◌≤◌, ◌+◌, ◌*◌}
use Rattle.std.specs.Prelude.{count_by}
use Rattle.std.specs.List.{range_with_len}
use Rattle.fr_matrix.specs.Places.{across, fits}
use Rattle.fr_matrix.proofs.grid.columns_of.Given as goal

abbrev pub invariant-loop-place : goal.invariant-loop-place
invariant-loop-place l = record {
  left_is : l.left ≡ across l.grid l.place;
  left_fits : l.left ≤ 70 + 22 * l.place;
  columns_are : l.columns ≡ count_by (fits l.grid) (range_with_len 0 l.place);
  few : l.columns ≤ l.place;
}
