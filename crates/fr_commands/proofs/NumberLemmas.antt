-- The number that digits spell, and the numbers of the words so far.
use Rattle.std.proofs.Common.{◌≡◌, ℕ, ◌<◌, ◌≤◌, ◌^◌, ◌&&◌, true, List, [], ◌∷◌, ◌++◌, length, ℤ, Option, Some, None}
use Rattle.std.proofs.Common.{Result, Ok, refl, sym, ap, ◌∙◌, arith}
use Rattle.std.proofs.Math.Nat.{pow-le-pow_right}
use Rattle.std.proofs.lemmas.Bool.{le-leb, lt-ltb}
use Rattle.std.proofs.lemmas.Fmt.{IsAscii-from_digits}
use Rattle.std.proofs.lemmas.Int.Digits.{digits_value-lt}
use Rattle.std.proofs.lemmas.List.{append_assoc}
use Rattle.std.proofs.lemmas.Result.{Ok-from_Ok_iff}
use Rattle.std.proofs.lemmas.Str.{IsUtf8-from_ascii}
use Rattle.std.proofs.lemmas.Str.Parse.{IsNumeralModel, numerals_by_value, tells_all_ascii_digits, parse_digits}
use Rattle.std.specs.Char.{is_ascii_digit}
use Rattle.std.specs.List.{list_all}
use Rattle.std.specs.Str.{IsUtf8, all_ascii_digits}
use Rattle.std.specs.Str.Parse.{ParsesUnsigned, digits_value}
use Rattle.fr_commands.specs.Numbers.{magnitude_in, before, joined}

own : IsNumeralModel (λ digits. all_ascii_digits digits ≡ true) (digits_value 10)
own = numerals_by_value (λ digits. all_ascii_digits digits ≡ true) tells_all_ascii_digits

all_digits : (digits : List ℕ) → list_all is_ascii_digit digits ≡ all_ascii_digits digits
all_digits [] = refl
all_digits (digit ∷ digits) = ap (λ rest. is_ascii_digit digit && rest) (all_digits digits)

told : (digits : List ℕ) → list_all is_ascii_digit digits ≡ true → all_ascii_digits digits ≡ true
told digits are = sym (all_digits digits) ∙ are

-- digits are UTF-8
pub digits_are_text : (digits : List ℕ) → list_all is_ascii_digit digits ≡ true → IsUtf8 digits
digits_are_text digits are = IsUtf8-from_ascii digits (IsAscii-from_digits digits (own.to digits (told digits are)))

-- 1 to 10 digits are a number that 64 bits hold, and `parse` finds it
pub parsed : {E : Type 0} (digits : List ℕ) (r : Result ℕ E) → ParsesUnsigned 64 10 digits r
    → list_all is_ascii_digit digits ≡ true → 0 < length digits → length digits ≤ 10
    → r ≡ Ok (digits_value 10 digits)
parsed digits r parses are some few =
    let below = digits_value-lt 10 digits (own.to digits (told digits are)) in
    let wide : 10 ^ length digits ≤ 10 ^ 10 = pow-le-pow_right (omega arith) few in
    let fits : digits_value 10 digits < 2 ^ 64 = omega arith in
    Ok-from_Ok_iff r _ _ (parse_digits own 64 digits r parses (told digits are)) (some, fits)

pub is_magnitude : (digits : List ℕ) → list_all is_ascii_digit digits ≡ true → 0 < length digits → length digits ≤ 10
    → magnitude_in digits ≡ Some (digits_value 10 digits)
is_magnitude digits are some few = rw (lt-ltb 0 (length digits) some, le-leb (length digits) 10 few, are) refl

-- one more number after those so far
pub one_more : (numbers : List ℤ) (z : ℤ) (rest : Option (List ℤ))
    → joined (numbers ++ z ∷ []) rest ≡ joined numbers (before (Some z) rest)
one_more numbers z None = refl
one_more numbers z (Some rest) = ap Some (append_assoc numbers (z ∷ []) rest)
