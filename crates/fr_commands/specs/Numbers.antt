-- The numbers that a text spells for `midpoint`.
use Rattle.std.specs.Prelude.{map, ◌++◌, ℕ, ◌==◌, nat_lt, nat_le, ◌&&◌, min, Bool, List, [], ◌∷◌, length, ℤ, pos, neg_ℤ}
use Rattle.std.specs.Prelude.{Option, Some, None, if◌then◌else◌}
use Rattle.std.specs.Char.{is_ascii_digit}
use Rattle.std.specs.List.{list_all}
use Rattle.std.specs.Str.Parse.{digits_value}
use Rattle.fr_text.specs.Spaces.{words_of}

-- a line feed as a space, and every other byte as it is
abbrev pub spaced : ℕ → ℕ
spaced b = if b == 10 then 32 else b

-- the text, cut at each space and line feed
abbrev pub words_in : List ℕ → List (List ℕ)
words_in text = words_of (map spaced text)

-- 1 to 10 digits
abbrev pub is_magnitude : List ℕ → Bool
is_magnitude digits = nat_lt 0 (length digits) && nat_le (length digits) 10 && list_all is_ascii_digit digits

abbrev pub magnitude_in : List ℕ → Option ℕ
magnitude_in digits = if is_magnitude digits then Some (digits_value 10 digits) else None

-- the number with this magnitude and sign, or the nearest that 32 bits hold
abbrev pub negative : Option ℕ → Option ℤ
negative None = None
negative (Some n) = Some (neg_ℤ (pos (min n 2147483648)))

abbrev pub positive : Option ℕ → Option ℤ
positive None = None
positive (Some n) = Some (pos (min n 2147483647))

-- the number that an optional minus and digits spell
abbrev pub number_in : List ℕ → Option ℤ
number_in [] = None
number_in (sign ∷ digits) =
    if sign == 45 then negative (magnitude_in digits) else positive (magnitude_in (sign ∷ digits))

-- one more number in front
abbrev pub before : Option ℤ → Option (List ℤ) → Option (List ℤ)
before None numbers = None
before (Some z) None = None
before (Some z) (Some numbers) = Some (z ∷ numbers)

-- the numbers that the words spell; an empty word stands between two separators and is no number
abbrev pub numbers_in : List (List ℕ) → Option (List ℤ)
numbers_in [] = Some []
numbers_in ([] ∷ words) = numbers_in words
numbers_in ((b ∷ word) ∷ words) = before (number_in (b ∷ word)) (numbers_in words)

-- the numbers so far, and those of the remaining words
abbrev pub joined : List ℤ → Option (List ℤ) → Option (List ℤ)
joined numbers None = None
joined numbers (Some rest) = Some (numbers ++ rest)
