-- Words on the numbers below a number.
use Rattle.std.specs.Prelude.{ℕ, suc, zero, ◌+◌, min, max, Bool, true, false, ◌&&◌, ◌||◌, if◌then◌else◌}

-- all of them pass the test, and some of them
unfoldable pub all_below : (ℕ → Bool) → ℕ → Bool
all_below test zero = true
all_below test (suc n) = all_below test n && test n

unfoldable pub any_below : (ℕ → Bool) → ℕ → Bool
any_below test zero = false
any_below test (suc n) = any_below test n || test n

-- how many of them pass it
unfoldable pub count_below : (ℕ → Bool) → ℕ → ℕ
count_below test zero = 0
count_below test (suc n) = count_below test n + (if test n then 1 else 0)

-- the greatest value, or 0
unfoldable pub most_below : (ℕ → ℕ) → ℕ → ℕ
most_below value zero = 0
most_below value (suc n) = max (most_below value n) (value n)

-- the least value, which is at most this number
unfoldable pub least_below : ℕ → (ℕ → ℕ) → ℕ → ℕ
least_below most value zero = most
least_below most value (suc n) = min (least_below most value n) (value n)

-- the sum of the values
unfoldable pub sum_below : (ℕ → ℕ) → ℕ → ℕ
sum_below value zero = 0
sum_below value (suc n) = sum_below value n + value n
