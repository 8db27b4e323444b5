-- Numbers, bytes and lists of plain words contain no space and no line feed.
use Rattle.std.proofs.Common.{◌≡◌, ℕ, ◌/◌, ◌%◌, ◌<◌, ◌≤◌, ◌^◌, ◌&&◌, Bool, true, false, not, zero, suc, List, [], ◌∷◌}
use Rattle.std.proofs.Common.{◌++◌, get_or, refl, arith}
use Rattle.std.proofs.lemmas.Bool.{and_parts}
use Rattle.std.proofs.lemmas.Bool.Decides.{nat_tests}
use Rattle.std.proofs.lemmas.Fmt.{digits_decimal}
use Rattle.std.proofs.lemmas.List.Elements.{All-nil, All-cons}
use Rattle.std.proofs.lemmas.Str.Parse.{digit_from_value}
use Rattle.std.specs.Fmt.{decimal}
use Rattle.std.specs.List.{All}
use Rattle.std.specs.Str.Parse.{AllDigits}
use Rattle.hex.specs.Hex.{encode_lower, encode_with, lower_digits}
use Rattle.fr_text.proofs.NumberLemmas.{own}
use Rattle.fr_text.specs.Plain.{is_feed, is_plain, IsPlain, has_no_feed}
use Rattle.fr_text.specs.Spaces.{is_space}
use Rattle.fr_text.specs.Spelling.{hex_text}

-- a byte that may stand in a plain word
abbrev is_plain_byte : ℕ → Bool
is_plain_byte b = not (is_space b) && not (is_feed b)

-- the test of a word is the tests of its first byte and of the others
pub plain_parts : (b : ℕ) (bytes : List ℕ) → IsPlain (b ∷ bytes)
    → (is_space b ≡ false) × (is_feed b ≡ false) × IsPlain bytes
plain_parts b bytes h =
    let parts = and_parts (is_plain_byte b) (is_plain bytes) h in
    let here = and_parts (not (is_space b)) (not (is_feed b)) parts.0 in
    (grind (arith, nat_tests), grind (arith, nat_tests), parts.1)

IsPlain-cons : (b : ℕ) (bytes : List ℕ) → is_plain_byte b ≡ true → IsPlain bytes → IsPlain (b ∷ bytes)
IsPlain-cons b bytes here rest = rw (here, rest) refl

pub IsPlain-append : (xs ys : List ℕ) → IsPlain xs → IsPlain ys → IsPlain (xs ++ ys)
IsPlain-append [] ys hx hy = hy
IsPlain-append (x ∷ xs) ys hx hy =
    let parts = and_parts (is_plain_byte x) (is_plain xs) hx in
    IsPlain-cons x (xs ++ ys) parts.0 (IsPlain-append xs ys parts.1 hy)

-- in the words of `slice_split`
pub no_space : (word : List ℕ) → IsPlain word → All (λ b. is_space b ≡ false) word
no_space [] h = All-nil (λ b. is_space b ≡ false)
no_space (b ∷ bytes) h =
    let parts = plain_parts b bytes h in
    All-cons (λ x. is_space x ≡ false) b bytes parts.0 (no_space bytes parts.2)

pub has_no_feed-plain : (word : List ℕ) → IsPlain word → has_no_feed word ≡ true
has_no_feed-plain [] h = refl
has_no_feed-plain (b ∷ bytes) h =
    let parts = plain_parts b bytes h in
    rw (parts.1, has_no_feed-plain bytes parts.2) refl

pub has_no_feed-append : (xs ys : List ℕ) → has_no_feed xs ≡ true → has_no_feed ys ≡ true
    → has_no_feed (xs ++ ys) ≡ true
has_no_feed-append [] ys hx hy = hy
has_no_feed-append (x ∷ xs) ys hx hy =
    let parts = and_parts (not (is_feed x)) (has_no_feed xs) hx in
    rw (parts.0, has_no_feed-append xs ys parts.1 hy) refl

-- ---- numbers

plain_digits : (ds : List ℕ) → AllDigits 10 ds → IsPlain ds
plain_digits [] h = refl
plain_digits (d ∷ ds) h =
    let low : 48 ≤ d = (digit_from_value d h.0).0 in
    IsPlain-cons d ds (grind (arith, nat_tests)) (plain_digits ds h.1)

pub IsPlain-decimal : (n : ℕ) → n < 2 ^ 64 → IsPlain (decimal n)
IsPlain-decimal n small = plain_digits (decimal n) (digits_decimal own n small)

-- ---- bytes

plain_at : (xs : List ℕ) (k : ℕ) → IsPlain xs → is_plain_byte (get_or xs k 0) ≡ true
plain_at [] k h = refl
plain_at (x ∷ xs) zero h = (and_parts (is_plain_byte x) (is_plain xs) h).0
plain_at (x ∷ xs) (suc k) h = plain_at xs k (and_parts (is_plain_byte x) (is_plain xs) h).1

-- a byte of a plain word is no space
pub plain_no_space : (word : List ℕ) (k : ℕ) → IsPlain word → is_space (get_or word k 0) ≡ true → ⊥
plain_no_space word k h is =
    let here = and_parts (not (is_space (get_or word k 0))) (not (is_feed (get_or word k 0))) (plain_at word k h) in
    grind (arith, nat_tests)

plain_hex : (bs : List ℕ) → IsPlain (encode_lower bs)
unfolding encode_with
plain_hex [] = refl
plain_hex (b ∷ bs) =
    let low = get_or lower_digits (b % 16) 0 in
    IsPlain-cons (get_or lower_digits (b / 16) 0) (low ∷ encode_lower bs) (plain_at lower_digits (b / 16) refl)
    (IsPlain-cons low (encode_lower bs) (plain_at lower_digits (b % 16) refl) (plain_hex bs))

pub IsPlain-hex_text : (bs : List ℕ) → IsPlain (hex_text bs)
IsPlain-hex_text bs = plain_hex bs
