-- The values of digits, for a block of them.
use Rattle.std.specs.Prelude.{◌≡◌, ℕ, ◌+◌, ◌*◌, ◌/◌, ◌%◌, ◌<◌, List, slice_index}
use Rattle.hex.specs.Hex.{lower_digits}

-- this is a lower-case hexadecimal digit
abbrev pub IsDigit : ℕ → Type 0
IsDigit digit = (value : ℕ) × (value < 16) × (slice_index lower_digits value ≡ digit)

-- each of the first `count` bytes is a lower-case hexadecimal digit
abbrev pub AreDigits : ℕ → List ℕ → Type 0
AreDigits count digits = (k : ℕ) → k < count → IsDigit (slice_index digits k)

-- these are the values of the first `count` digits
abbrev pub AreValues : ℕ → List ℕ → List ℕ → Type 0
AreValues count values digits =
    (k : ℕ) → k < count → (slice_index values k < 16) × (slice_index lower_digits (slice_index values k)
    ≡ slice_index digits k)

-- each of the first `count` bytes is made of two values, if both are values of digits
abbrev pub ArePacked : ℕ → List ℕ → List ℕ → Type 0
ArePacked count values bytes =
    (k : ℕ) → k < count → slice_index values (2 * k) < 16 → slice_index values (2 * k + 1) < 16
    → (slice_index bytes k / 16 ≡ slice_index values (2 * k))
    × (slice_index bytes k % 16 ≡ slice_index values (2 * k + 1))
