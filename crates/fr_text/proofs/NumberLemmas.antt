-- A word is the decimal text of at most one number, and `parse` finds it.
use Rattle.std.proofs.Common.{◌≡◌, ◌≢◌, ℕ, ◌<◌, ◌≤◌, ◌^◌, ◌&&◌, inl, inr, true, false, List, [], ◌∷◌, length, get_or}
use Rattle.std.proofs.Common.{Some, None, Result, Ok, Err, refl, sym, ap, subst, ◌∙◌, arith, ltb, leb, ◌+◌, ◌*◌, ◌%◌}
use Rattle.std.proofs.Common.{take, length-take}
use Rattle.std.proofs.lemmas.List.{get_or-take}
use Rattle.std.proofs.lemmas.Bool.{and_parts, cases_Bool, cases_lt, ltb-true, lt-ltb, le-leb}
use Rattle.std.proofs.lemmas.Fmt.{parse-decimal, decimal-digits_value, first_decimal, decimal_digit, digits_decimal}
use Rattle.std.proofs.lemmas.Fmt.{digits_value-decimal, IsAscii-decimal, decimal_nonempty}
use Rattle.std.proofs.lemmas.Str.{IsUtf8-from_ascii, digit_value_digit}
use Rattle.std.proofs.lemmas.Str.Parse.{IsNumeralModel, numerals_by_value, tells_digits, parse_plain, digit_at}
use Rattle.std.proofs.lemmas.Str.Parse.{digits_value_short}
use Rattle.std.proofs.lemmas.Int.Digits.{digits_value_more, digits_more}
use Rattle.std.proofs.lemmas.Slice.Eq.{bytes_eq-Decides}
use Rattle.std.proofs.lemmas.Result.{OkIff-at_ok}
use Rattle.std.specs.Fmt.{decimal}
use Rattle.std.specs.Str.{IsUtf8, bytes_eq}
use Rattle.std.specs.Str.Parse.{AllDigits, digits_value, ParsesUnsigned}
use Rattle.fr_text.specs.Reading.{number_in}

pub own : IsNumeralModel (AllDigits 10) (digits_value 10)
own = numerals_by_value (AllDigits 10) tells_digits

-- the word spells no number below the bound
pub number_none : (bound : ℕ) (word : List ℕ) → ((n : ℕ) → n < bound → decimal n ≡ word → ⊥)
    → number_in bound word ≡ None
unfolding number_in
number_none bound word none =
    let n = digits_value 10 word in
    elim (cases_Bool (bytes_eq (decimal n) word && ltb n bound)) [
      | inl pass ↦
          let parts = and_parts (bytes_eq (decimal n) word) (ltb n bound) pass in
          absurd (none n (ltb-true n bound parts.1) ((bytes_eq-Decides (decimal n) word).0 parts.0))
      | inr fail ↦ rw fail refl
    ]

-- the word spells this number
pub number_some : (bound : ℕ) (word : List ℕ) (n : ℕ) → n < 2 ^ 64 → n < bound → decimal n ≡ word
    → number_in bound word ≡ Some n
unfolding number_in
number_some bound word n small below same =
    let value : digits_value 10 word ≡ n = rw (← same) (digits_value-decimal own n small) in
    rw (value, (bytes_eq-Decides (decimal n) word).1 same, lt-ltb n bound below) refl

-- a number that is read has the word as its spelling
pub number_takes : (bound : ℕ) (word : List ℕ) (n : ℕ) → number_in bound word ≡ Some n
    → (decimal n ≡ word) × (n < bound)
unfolding number_in
number_takes bound word n read =
    let v = digits_value 10 word in
    elim (cases_Bool (bytes_eq (decimal v) word && ltb v bound)) [
      | inl pass ↦
          let parts = and_parts (bytes_eq (decimal v) word) (ltb v bound) pass in
          let is : v ≡ n = cc (rw pass at read) in
          rw (← is) ((bytes_eq-Decides (decimal v) word).0 parts.0, ltb-true v bound parts.1)
      | inr fail ↦ cc (rw fail at read)
    ]

-- the spelling of a number is read as this number
pub number_again : (bound n : ℕ) → n < bound → bound ≤ 2 ^ 64 → number_in bound (decimal n) ≡ Some n
number_again bound n below small = number_some bound (decimal n) n (omega arith) below refl

-- a word that begins with a byte other than a digit spells no number; the premise is `refl` at a literal
pub decimal_other : (n : ℕ) (word : List ℕ) → n < 2 ^ 64
    → (leb 48 (get_or word 0 0) && leb (get_or word 0 0) 57) ≡ false → bytes_eq (decimal n) word ≡ false
decimal_other n word small other =
    elim (cases_Bool (bytes_eq (decimal n) word)) [
      | inl same ↦
          let is : decimal n ≡ word = (bytes_eq-Decides (decimal n) word).0 same in
          let first = digit_at (decimal n) 0 (digits_decimal own n small) (decimal_nonempty n small) in
          let low : leb 48 (get_or word 0 0) ≡ true = le-leb 48 (get_or word 0 0) (rw is at first.0) in
          let high : leb (get_or word 0 0) 57 ≡ true = le-leb (get_or word 0 0) 57 (rw is at first.1) in
          cc (rw (low, high) at other)
      | inr differ ↦ differ
    ]

-- ---- the results of `number_of`

-- a decimal spelling is text
pub not_text : (bound : ℕ) (word : List ℕ) → bound ≤ 2 ^ 64 → (IsUtf8 word → ⊥) → number_in bound word ≡ None
not_text bound word small bad =
    number_none bound word
    (λ n below same. bad (rw (← same) (IsUtf8-from_ascii (decimal n) (IsAscii-decimal n (omega arith)))))

-- a word that `parse` rejects is no decimal spelling
pub not_parsed : {E : Type 0} (bound : ℕ) (word : List ℕ) (r : Result ℕ E) (e : E) → bound ≤ 2 ^ 64
    → ParsesUnsigned 64 10 word r → r ≡ Err e → number_in bound word ≡ None
not_parsed bound word r e small parses refused =
    number_none bound word
    (λ n below same. cc (parse-decimal 64 n word r (omega arith) (omega arith) (sym same) parses, refused))

-- a decimal spelling begins with a digit
pub not_sign : (bound : ℕ) (word : List ℕ) → bound ≤ 2 ^ 64 → get_or word 0 0 ≡ 43 → number_in bound word ≡ None
not_sign bound word small sign =
    number_none bound word (λ n below same.
    let lt : n < 2 ^ 64 = omega arith in
    let first = digit_at (decimal n) 0 (digits_decimal own n lt) (decimal_nonempty n lt) in
    let plus : get_or (decimal n) 0 0 ≡ 43 = rw same sign in
    omega arith)

-- and not with a 0 before another digit
pub not_padded : (bound : ℕ) (word : List ℕ) → bound ≤ 2 ^ 64 → get_or word 0 0 ≡ 48 → 1 < length word
    → number_in bound word ≡ None
not_padded bound word small zero_first long =
    number_none bound word (λ n below same.
    let lt : n < 2 ^ 64 = omega arith in
    let first : get_or (decimal n) 0 0 ≡ 48 = rw same zero_first in
    elim (cases_lt 0 n) [
      | inl some ↦ let high = first_decimal n some lt in omega arith
      | inr none ↦
          let is : n ≡ 0 = omega arith in
          let one : decimal n ≡ 48 ∷ [] = rw is (decimal_digit 0 (omega arith)) in
          let len : length word ≡ 1 = ap length (sym same ∙ one) in
          omega arith
    ])

-- a number that is the bound or more
pub not_below : {E : Type 0} (bound : ℕ) (word : List ℕ) (r : Result ℕ E) (n : ℕ) → bound ≤ 2 ^ 64
    → ParsesUnsigned 64 10 word r → r ≡ Ok n → bound ≤ n → number_in bound word ≡ None
not_below bound word r n small parses read high =
    number_none bound word (λ m below same.
    let is : Ok n ≡ Ok m = sym read ∙ parse-decimal 64 m word r (omega arith) (omega arith) (sym same) parses in
    let same_number : n ≡ m = cc is in
    omega arith)

-- a word that `parse` reads, with no sign and no 0 before it
pub parsed : {E : Type 0} (bound : ℕ) (word : List ℕ) (r : Result ℕ E) (n : ℕ) → ParsesUnsigned 64 10 word r → r ≡ Ok n
    → get_or word 0 0 ≢ 43
    → (get_or word 0 0 ≡ 48 → length word ≤ 1) → n < bound → number_in bound word ≡ Some n
parsed bound word r n parses read sign padded below =
    let facts = OkIff-at_ok r _ _ n (parse_plain own 64 word r parses sign) read in
    let value : n ≡ digits_value 10 word = facts.1 in
    let text = facts.0 in
    let canonical : decimal (digits_value 10 word) ≡ word =
    decimal-digits_value own word text.0 text.1 (λ z. let le = padded z in let some = text.1 in omega arith) text.2 in
    number_some bound word n (rw value text.2) below (rw value canonical)

-- ---- the number that few digits write

digit_byte : (b : ℕ) → b < 256 → (b + 208) % 256 ≤ 9 → (48 ≤ b) × (b ≤ 57)
digit_byte b small few = (omega arith, omega arith)

-- one digit more
pub digits-value_more : (word : List ℕ) (i n : ℕ) → i < length word → n ≡ digits_value 10 (take i word)
    → get_or word i 0 < 256 → (get_or word i 0 + 208) % 256 ≤ 9
    → n * 10 + (get_or word i 0 + 208) % 256 ≡ digits_value 10 (take (i + 1) word)
digits-value_more word i n within is small few =
    let range = digit_byte (get_or word i 0) small few in
    let digit = digit_value_digit (get_or word i 0) range in
    omega (arith, digits_value_more 10 word i within, digit, range.0, range.1)

pub digits-all_more : (word : List ℕ) (i : ℕ) → i < length word → AllDigits 10 (take i word) → get_or word i 0 < 256
    → (get_or word i 0 + 208) % 256 ≤ 9 → AllDigits 10 (take (i + 1) word)
digits-all_more word i within all small few =
    let range = digit_byte (get_or word i 0) small few in
    digits_more 10 word i within all (omega (arith, digit_value_digit (get_or word i 0) range, range.1))

-- the number of at most nine digits is small
pub digits-small : (word : List ℕ) (i n : ℕ) → length word ≤ 9 → n ≡ digits_value 10 (take i word)
    → AllDigits 10 (take i word) → n < 10 ^ 9
digits-small word i n few is all =
    omega (arith, is, digits_value_short own (take i word) 9 all (omega (arith, length-take i word)))

pub digits-few : (bytes : List ℕ) (i n : ℕ) → i ≤ 9 → n ≡ digits_value 10 (take i bytes)
    → AllDigits 10 (take i bytes) → n < 10 ^ 9
digits-few bytes i n few is all =
    omega (arith, is, digits_value_short own (take i bytes) 9 all (omega (arith, length-take i bytes)))

-- a byte other than a digit
pub digits-other : (word : List ℕ) (i : ℕ) → i < length word → 9 < (get_or word i 0 + 208) % 256 → AllDigits 10 word → ⊥
digits-other word i within high all = let range = digit_at word i all within in omega (arith, range.0, range.1)

pub number-no_digits : (bound : ℕ) (word : List ℕ) → bound ≤ 2 ^ 64 → (AllDigits 10 word → ⊥)
    → number_in bound word ≡ None
number-no_digits bound word small bad =
    number_none bound word (λ n below same. bad (subst (AllDigits 10) same (digits_decimal own n (omega arith))))

pub number-empty : (bound : ℕ) (word : List ℕ) → bound ≤ 2 ^ 64 → length word ≡ 0 → number_in bound word ≡ None
number-empty bound word small empty =
    number_none bound word (λ n below same. omega (arith, decimal_nonempty n (omega arith), ap length same))

pub number-high : (bound : ℕ) (word : List ℕ) (n : ℕ) → bound ≤ 2 ^ 64 → n ≡ digits_value 10 word → bound ≤ n
    → number_in bound word ≡ None
number-high bound word n small is high =
    number_none bound word (λ m below same.
    let value : digits_value 10 word ≡ m = rw (← same) (digits_value-decimal own m (omega arith)) in
    omega arith)

pub number-digits : (bound : ℕ) (word : List ℕ) (n : ℕ) → bound ≤ 2 ^ 64 → n ≡ digits_value 10 word → AllDigits 10 word
    → 0 < length word
    → (get_or word 0 0 ≡ 48 → length word ≤ 1) → n < bound → number_in bound word ≡ Some n
number-digits bound word n small is all some padded below =
    let canonical : decimal (digits_value 10 word) ≡ word =
    decimal-digits_value own word all some (λ z. let le = padded z in omega arith) (omega arith) in
    number_some bound word n (omega arith) below (rw is canonical)

-- a word that is the one byte `-`
pub number-dash : (bound : ℕ) (line : List ℕ) → bound ≤ 2 ^ 64 → 0 < length line → get_or line 0 0 ≡ 45
    → number_in bound (take 1 line) ≡ None
number-dash bound line small some dash =
    number-no_digits bound (take 1 line) small
    (λ all.
    let range = digit_at (take 1 line) 0 all (omega (arith, length-take 1 line)) in
    omega (arith, range.0, get_or-take 1 line 0 0 (omega arith), dash))
