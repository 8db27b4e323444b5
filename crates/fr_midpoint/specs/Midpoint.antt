-- The fault-tolerant midpoint (chapter 8), by ranks that are counted on the values.
use Rattle.std.specs.Prelude.{◌≡◌, ℕ, ◌+◌, ◌-◌, ◌<◌, ◌≤◌, nat_le, List, length, Contains, count_by, ℤ, ◌+ℤ◌, ◌-ℤ◌}
use Rattle.std.specs.Prelude.{int_lt, int_le, if◌then◌else◌}
use Rattle.std.specs.Int.RustNames.{unsigned_abs}
use Rattle.fr_midpoint.specs.declared.ranks.Midpoint.{Midpoint}

-- the number of values below this one, and the number of those that aren't above it
abbrev pub below : List ℤ → ℤ → ℕ
below values x = count_by (λ y. int_lt y x) values

abbrev pub not_above : List ℤ → ℤ → ℕ
not_above values x = count_by (λ y. int_le y x) values

-- The value has this rank, counted from 1. It is among the values, fewer than the rank are below it, and at least as
-- many aren't above it. Equal values have several ranks.
pub record HasRank (values : List ℤ) (rank : ℕ) (x : ℤ) : Type 0 where
  pub among : Contains values x
  pub few_below : below values x < rank
  pub enough : rank ≤ not_above values x

-- the number of values that are dropped at either end, of so many
abbrev pub dropped : ℕ → ℕ
dropped count = if nat_le count 2 then 0 else if nat_le count 7 then 1 else 2

-- Half of a sum, truncated toward zero (project-defined): twice the half differs from the sum by at most 1, and isn't
-- farther from 0.
pub record IsHalf (sum half : ℤ) : Type 0 where
  pub near : unsigned_abs (half +ℤ half -ℤ sum) ≤ 1
  pub no_farther : unsigned_abs (half +ℤ half) ≤ unsigned_abs sum

-- The midpoint of the values: half the sum of the least and the greatest that aren't dropped, with their ranks.
pub record IsMidpoint (values : List ℤ) (m : Midpoint) : Type 0 where
  pub low : ℤ
  pub high : ℤ
  pub low_rank_is : m.low_rank ≡ dropped (length values) + 1
  pub high_rank_is : m.high_rank ≡ length values - dropped (length values)
  pub low_has : HasRank values m.low_rank low
  pub high_has : HasRank values m.high_rank high
  pub value_is : IsHalf (low +ℤ high) m.value
