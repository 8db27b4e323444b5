-- The numbers and bytes that words spell. Each has one spelling.
use Rattle.std.specs.Prelude.{ℕ, ◌==◌, nat_lt, nat_le, Bool, true, false, ◌&&◌, List, [], ◌∷◌, length, Option, Some}
use Rattle.std.specs.Prelude.{None, Result, Ok, Err, if◌then◌else◌}
use Rattle.std.specs.Fmt.{decimal}
use Rattle.std.specs.Str.{bytes_eq}
use Rattle.std.specs.Str.Parse.{digits_value}
use Rattle.hex.specs.Hex.{decode_of, encode_lower}
use Rattle.hex.specs.declared.error.FromHexError.{FromHexError}

-- the ? of the logic: the second step, if the first gave a value
infixl 10 ◌>>=◌
abbrev pub ◌>>=◌ : {A B : Type 0} → Option A → (A → Option B) → Option B
None >>= f = None
(Some x) >>= f = f x

-- the new value if it was read; otherwise none
abbrev pub read_as : {A : Type 0} → Bool → A → Option A
read_as true x = Some x
read_as false x = None

-- the number below the bound that the word spells
unfoldable pub number_in : ℕ → List ℕ → Option ℕ
number_in bound word =
    let n = digits_value 10 word in
    if bytes_eq (decimal n) word && nat_lt n bound then Some n else None

-- the value that the first word is read as
abbrev pub first_in : {A : Type 0} → (List ℕ → Option A) → List (List ℕ) → Option A
first_in read [] = None
first_in read (word ∷ words) = read word

-- the bytes of a result of decoding, if they are at most `most` and these are their lower-case digits
abbrev pub bytes_as : ℕ → List ℕ → Result (List ℕ) FromHexError → Option (List ℕ)
bytes_as most digits (Err e) = None
bytes_as most digits (Ok bytes) = if bytes_eq (encode_lower bytes) digits
    && nat_le (length bytes) most then Some bytes else None

-- the bytes that the word spells, at most `most` of them
unfoldable pub bytes_in : ℕ → List ℕ → Option (List ℕ)
bytes_in most [] = None
bytes_in most (mark ∷ digits) = if mark == 120 then bytes_as most digits (decode_of digits) else None
