-- The midpoint by places in ascending values.
use Rattle.std.specs.Prelude.{ℕ, ◌+◌, ◌-◌, ◌==◌, List, length, slice_index_or, ℤ, pos, ◌+ℤ◌, int_div, Option, Some}
use Rattle.std.specs.Prelude.{None, if◌then◌else◌}
use Rattle.fr_midpoint.specs.declared.ranks.Midpoint.{Midpoint}
use Rattle.fr_midpoint.specs.Midpoint.{dropped}

-- the value at a place counted from 0
abbrev pub value_at : List ℤ → ℕ → ℤ
value_at ascending place = slice_index_or ascending place (pos 0)

abbrev pub middle_of : List ℤ → Option Midpoint
middle_of ascending =
    let count = length ascending in
    let k = dropped count in
    if count == 0 then None
    else
    Some
    (record {
      value = int_div (value_at ascending k +ℤ value_at ascending (count - 1 - k)) (pos 2);
      low_rank = k + 1;
      high_rank = count - k;
    })
