-- Digits that are read by their values are the digits of the bytes made of these values.
use Rattle.std.proofs.Common.{◌≡◌, ◌≢◌, ℕ, zero, suc, ◌+◌, ◌-◌, ◌*◌, ◌/◌, ◌%◌, ◌<◌, ◌≤◌, List, [], ◌∷◌, ◌++◌}
use Rattle.std.proofs.Common.{length, length-take, get_or, set, take, take-add, drop, replicate, slice_index}
use Rattle.std.proofs.Common.{Option, Some, None, IfSome, inl, inr, refl, sym, ap, subst, ◌∙◌, arith, lit<}
use Rattle.std.proofs.Math.Seq.{get_or-append_right, take-append_seam}
use Rattle.std.proofs.lemmas.Bool.{le-leb, cases_lt}
use Rattle.std.proofs.lemmas.List.{get_or-set_same, get_or-set_other, get_or-drop, get_or-take, get_or_append_left}
use Rattle.std.proofs.lemmas.List.{take_all, take-append-drop, drop-drop}
use Rattle.std.proofs.lemmas.Simd.{get_or-chunk, get_or-replicate}
use Rattle.std.proofs.lemmas.Slice.Eq.{bytes_eq-Decides}
use Rattle.std.specs.Simd.{first_chunks}
use Rattle.hex.proofs.HexLemmas.{length-encode_with, decode_of-encode_lower, decode_of-ok}
use Rattle.hex.specs.Hex.{decode_of, encode_lower, encode_with, lower_digits, IsBytes}
use Rattle.fr_text.specs.Digits.{IsDigit, AreDigits, AreValues, ArePacked}
use Rattle.fr_text.specs.Reading.{bytes_as, bytes_in}
use Rattle.fr_text.specs.Spelling.{hex_text}
use Rattle.fr_text.proofs.HexTextLemmas.{as_takes, none_from, bytes_again}

-- the two digits at a place are those of the byte at this place
abbrev pub SpelledAt : List ℕ → List ℕ → ℕ → Type 0
SpelledAt room digits k =
    (slice_index lower_digits (get_or room k 0 / 16) ≡ get_or digits (2 * k) 0)
    × (slice_index lower_digits (get_or room k 0 % 16) ≡ get_or digits (2 * k + 1) 0)

-- a fact of each number so far, with one number more
pub set_each : (P : ℕ → ℕ → Type 0) (xs : List ℕ) (place x : ℕ) → place < length xs → P place x
    → ((k : ℕ) → k < place → P k (slice_index xs k))
    → (k : ℕ) → k < place + 1 → P k (slice_index (set xs place x) k)
set_each P xs place x within here before k lt =
    elim (cases_lt k place) [
      | inl earlier ↦
          let other : k ≢ place = λ e. omega arith in
          let same : get_or (set xs place x) k 0 ≡ get_or xs k 0 = get_or-set_other xs place k x 0 other in
          subst (P k) (sym same) (before k earlier)
      | inr late ↦
          let is : place ≡ k = omega arith in
          let now : get_or (set xs place x) place 0 ≡ x = get_or-set_same xs place x 0 within in
          subst (λ (n : ℕ). P n (get_or (set xs place x) n 0)) is (subst (P place) (sym now) here)
    ]

-- digits that are spelled at each place
pub spelled_by_places : (count : ℕ) (room digits : List ℕ) → length digits ≡ 2 * count → count ≤ length room
    → ((k : ℕ) → k < count → SpelledAt room digits k)
    → encode_lower (take count room) ≡ digits
unfolding encode_with
spelled_by_places zero room [] long fits each = refl
spelled_by_places zero room (d ∷ digits) long fits each = absurd (omega arith)
spelled_by_places (suc count) [] digits long fits each = absurd (omega arith)
spelled_by_places (suc count) (b ∷ room) [] long fits each = absurd (omega arith)
spelled_by_places (suc count) (b ∷ room) (d ∷ []) long fits each = absurd (omega arith)
spelled_by_places (suc count) (b ∷ room) (d ∷ e ∷ digits) long fits each =
    let first = each 0 (omega arith) in
    let rest = spelled_by_places count room digits (omega arith) (omega arith) (λ k lt.
    let next = each (suc k) (omega arith) in
    let high : 2 * suc k ≡ suc (suc (2 * k)) = omega arith in
    let low : 2 * suc k + 1 ≡ suc (suc (2 * k + 1)) = omega arith in
    let digit_at = λ (n : ℕ). get_or (d ∷ e ∷ digits) n 0 in
    (next.0 ∙ ap digit_at high, next.1 ∙ ap digit_at low)) in
    rw (first.0, first.1, rest) refl

-- the digits in front of a block are spelled by the bytes of their values
pub front_spelled : (count : ℕ) (values bytes digits : List ℕ) → count ≤ 32 → length bytes ≡ 16 → length digits ≡ 32
    → AreValues count values digits → ArePacked 16 values bytes
    → encode_lower (take (count / 2) bytes) ≡ take (2 * (count / 2)) digits
front_spelled count values bytes digits few bytes_len digits_len are packed =
    let twice = 2 * (count / 2) in
    let long = length-take twice digits in
    spelled_by_places (count / 2) bytes (take twice digits) (omega arith) (omega arith) (λ k lt.
    let high = are (2 * k) (omega arith) in
    let low = are (2 * k + 1) (omega arith) in
    let byte = packed k (omega arith) high.0 low.0 in
    let high_digit = get_or-take twice digits (2 * k) 0 (omega arith) in
    let low_digit = get_or-take twice digits (2 * k + 1) 0 (omega arith) in
    let high_is = ap (slice_index lower_digits) byte.0 ∙ high.1 ∙ sym high_digit in
    let low_is = ap (slice_index lower_digits) byte.1 ∙ low.1 ∙ sym low_digit in
    (high_is, low_is))

-- the digits of bytes after others
pub encode-append : (xs ys : List ℕ) → encode_lower (xs ++ ys) ≡ encode_lower xs ++ encode_lower ys
unfolding encode_with
encode-append [] ys = refl
encode-append (x ∷ xs) ys =
    let onto = λ (ds : List ℕ). slice_index lower_digits (x / 16) ∷ slice_index lower_digits (x % 16) ∷ ds in
    ap onto (encode-append xs ys)

-- the digits of the first bytes
pub encode-take : (n : ℕ) (xs : List ℕ) → encode_lower (take n xs) ≡ take (2 * n) (encode_lower xs)
unfolding encode_with
encode-take zero xs = refl
encode-take (suc n) [] = let twice : 2 * suc n ≡ suc (suc (2 * n)) = omega arith in rw twice refl
encode-take (suc n) (x ∷ xs) =
    let twice : 2 * suc n ≡ suc (suc (2 * n)) = omega arith in
    let onto = λ (ds : List ℕ). slice_index lower_digits (x / 16) ∷ slice_index lower_digits (x % 16) ∷ ds in
    rw twice (ap onto (encode-take n xs))

-- the digits of bytes, place by place
pub places_spelled : (bs digits : List ℕ) (k : ℕ) → encode_lower bs ≡ digits → 2 * k < length digits
    → SpelledAt bs digits k
unfolding encode_with
places_spelled [] digits k is lt = let none : 0 ≡ length digits = ap length is in absurd (omega arith)
places_spelled (b ∷ bs) digits zero is lt = rw (← is) (refl, refl)
places_spelled (b ∷ bs) [] (suc k) is lt = absurd (omega arith)
places_spelled (b ∷ bs) (d ∷ []) (suc k) is lt = absurd (omega arith)
places_spelled (b ∷ bs) (d ∷ e ∷ digits) (suc k) is lt =
    let same : encode_lower bs ≡ digits = cc in
    let rest = places_spelled bs digits k same (omega arith) in
    let high : suc (suc (2 * k)) ≡ 2 * suc k = omega arith in
    let low : suc (suc (2 * k + 1)) ≡ 2 * suc k + 1 = omega arith in
    let digit_at = λ (n : ℕ). get_or (d ∷ e ∷ digits) n 0 in
    (rest.0 ∙ ap digit_at high, rest.1 ∙ ap digit_at low)

-- a block stands at its place
pub block_at : (count i : ℕ) (digits default : List ℕ) → i < count
    → get_or (first_chunks 32 count digits) i default ≡ take 32 (drop (32 * i) digits)
block_at zero i digits default lt = absurd (omega arith)
block_at (suc count) zero digits default lt = refl
block_at (suc count) (suc i) digits default lt =
    let more : 32 + 32 * i ≡ 32 * suc i = omega arith in
    block_at count i (drop 32 digits) default (omega arith)
    ∙ ap (take 32) (drop-drop (32 * i) 32 digits ∙ ap (λ (n : ℕ). drop n digits) more)

-- the digits of one block more
pub take_block : (i : ℕ) (digits : List ℕ)
    → take (32 * i) digits ++ take 32 (drop (32 * i) digits) ≡ take (32 * (i + 1)) digits
take_block i digits =
    let more : 32 * (i + 1) ≡ 32 * i + 32 = omega arith in
    sym (ap (λ (n : ℕ). take n digits) more ∙ take-add (32 * i) 32 digits)

-- the bytes whose digits these are; none if the digits are those of no bytes
pub bytes_found : (most : ℕ) (digits bs : List ℕ) → IsBytes bs → encode_lower bs ≡ digits → length bs ≤ most
    → bytes_as most digits (decode_of digits) ≡ Some bs
bytes_found most digits bs fits is few =
    let digits_same = (bytes_eq-Decides (encode_lower bs) (encode_lower bs)).1 refl in
    rw (← is) (rw (decode_of-encode_lower bs fits, digits_same, le-leb (length bs) most few) refl)

pub bytes_missing : (most : ℕ) (digits : List ℕ)
    → ((bs : List ℕ) → IsBytes bs → encode_lower bs ≡ digits → length bs ≤ most → ⊥)
    → bytes_as most digits (decode_of digits) ≡ None
bytes_missing most digits none =
    none_from (bytes_as most digits (decode_of digits)) (λ bs read.
    let taken = as_takes most digits bs (decode_of digits) read in
    none bs (decode_of-ok digits bs taken.0).3 taken.1 taken.2)

-- the digits of bytes are twice as many
pub spelled_length : (bs digits : List ℕ) → encode_lower bs ≡ digits → length digits ≡ 2 * length bs
spelled_length bs digits is = ap length (sym is) ∙ length-encode_with lower_digits bs

-- each digit of bytes is a lower-case hexadecimal digit
pub digits_of_bytes : (digits bs : List ℕ) → IsBytes bs → encode_lower bs ≡ digits → AreDigits (length digits) digits
digits_of_bytes digits bs fits is k lt =
    let twice = spelled_length bs digits is in
    let spelled = places_spelled bs digits (k / 2) is (omega arith) in
    let byte : get_or bs (k / 2) 0 < 256 = fits (k / 2) in
    elim (cases_lt 0 (k % 2)) [
      | inl odd ↦
          let here : 2 * (k / 2) + 1 ≡ k = omega arith in
          (get_or bs (k / 2) 0 % 16, omega arith, spelled.1 ∙ ap (λ (n : ℕ). get_or digits n 0) here)
      | inr even ↦
          let here : 2 * (k / 2) ≡ k = omega arith in
          (get_or bs (k / 2) 0 / 16, omega arith, spelled.0 ∙ ap (λ (n : ℕ). get_or digits n 0) here)
    ]

pub missing_long : (most : ℕ) (digits : List ℕ) → most < length digits / 2
    → bytes_as most digits (decode_of digits) ≡ None
missing_long most digits long =
    bytes_missing most digits (λ bs fits is few. let twice = spelled_length bs digits is in omega arith)

pub missing_odd : (most : ℕ) (digits : List ℕ) → length digits % 2 ≡ 1 → bytes_as most digits (decode_of digits) ≡ None
missing_odd most digits odd =
    bytes_missing most digits (λ bs fits is few. let twice = spelled_length bs digits is in omega arith)

-- ---- blocks

pub encode-none : encode_lower [] ≡ []
unfolding encode_with
encode-none = refl

-- a block of digits contains only digits
pub digits_in_block : (i : ℕ) (digits block : List ℕ) → block ≡ take 32 (drop (32 * i) digits)
    → AreDigits (32 * (i + 1)) digits → AreDigits 32 block
digits_in_block i digits block is are k lt =
    let at : get_or block k 0 ≡ get_or digits (32 * i + k) 0 =
    ap (λ (b : List ℕ). get_or b k 0) is ∙ get_or-chunk (32 * i) 32 digits k 0 lt in
    subst IsDigit (sym at) (are (32 * i + k) (omega arith))

-- so does the last block, which is filled with zeros
pub digits_in_last : (i : ℕ) (digits rest block : List ℕ) → rest ≡ drop (32 * i) digits
    → block ≡ rest ++ replicate (32 - length rest) 48
    → length rest + 32 * i ≡ length digits → AreDigits (length digits) digits → AreDigits 32 block
digits_in_last i digits rest block rest_is is long are k lt =
    elim (cases_lt k (length rest)) [
      | inl early ↦
          let at : get_or block k 0 ≡ get_or digits (32 * i + k) 0 =
          ap (λ (b : List ℕ). get_or b k 0) is ∙ get_or_append_left rest (replicate (32 - length rest) 48) 0 k early
          ∙ ap (λ (b : List ℕ). get_or b k 0) rest_is ∙ get_or-drop (32 * i) digits k 0 in
          subst IsDigit (sym at) (are (32 * i + k) (omega arith))
      | inr late ↦
          let at : get_or block k 0 ≡ 48 =
          ap (λ (b : List ℕ). get_or b k 0) is ∙ get_or-append_right rest (replicate (32 - length rest) 48) k 0 late
          ∙ get_or-replicate (32 - length rest) (k - length rest) 48 0 (omega arith) in
          subst IsDigit (sym at) (0, lit< tt, refl)
    ]

-- the digits of the blocks and of the last block are all digits
pub blocks_spelled : (i : ℕ) (digits rest head last : List ℕ) → rest ≡ drop (32 * i) digits → length rest % 2 ≡ 0
    → encode_lower head ≡ take (32 * i) digits → encode_lower last ≡ rest ++ replicate (32 - length rest) 48
    → encode_lower (head ++ take (length rest / 2) last) ≡ digits
blocks_spelled i digits rest head last rest_is even head_is last_is =
    let twice : 2 * (length rest / 2) ≡ length rest = omega arith in
    let tail : encode_lower (take (length rest / 2) last) ≡ drop (32 * i) digits =
    encode-take (length rest / 2) last ∙ ap (take (2 * (length rest / 2))) last_is
    ∙ ap (λ (n : ℕ). take n (rest ++ replicate (32 - length rest) 48)) twice
    ∙ take-append_seam rest (replicate (32 - length rest) 48) ∙ rest_is in
    encode-append head (take (length rest / 2) last) ∙ (λ j. head_is j ++ tail j) ∙ take-append-drop (32 * i) digits

-- ---- lists of bytes

pub IsBytes-append : (xs ys : List ℕ) → IsBytes xs → IsBytes ys → IsBytes (xs ++ ys)
IsBytes-append [] ys fits more i = more i
IsBytes-append (x ∷ xs) ys fits more zero = fits 0
IsBytes-append (x ∷ xs) ys fits more (suc i) = IsBytes-append xs ys (λ j. fits (suc j)) more i

pub IsBytes-take : (n : ℕ) (xs : List ℕ) → IsBytes xs → IsBytes (take n xs)
IsBytes-take zero xs fits i = lit< tt
IsBytes-take (suc n) [] fits i = fits i
IsBytes-take (suc n) (x ∷ xs) fits zero = fits 0
IsBytes-take (suc n) (x ∷ xs) fits (suc i) = IsBytes-take n xs (λ j. fits (suc j)) i

-- ---- the word in front of a text

-- the digits of the blocks and the first digits of another block
front_whole : (i c : ℕ) (digits head read block : List ℕ) → encode_lower head ≡ take (32 * i) digits
    → encode_lower (take (c / 2) read) ≡ take (2 * (c / 2)) block → c ≡ 2 * (c / 2)
    → take c block ≡ take c (drop (32 * i) digits) → encode_lower (head ++ take (c / 2) read) ≡ take (32 * i + c) digits
front_whole i c digits head read block head_is read_is even block_is =
    let tail : encode_lower (take (c / 2) read) ≡ take c (drop (32 * i) digits) =
    read_is ∙ ap (λ (n : ℕ). take n block) (sym even) ∙ block_is in
    encode-append head (take (c / 2) read) ∙ (λ j. head_is j ++ tail j) ∙ sym (take-add (32 * i) c digits)

-- the first `n` digits are twice as many as their bytes
front_long : (n : ℕ) (digits bytes : List ℕ) → encode_lower bytes ≡ take n digits → n ≤ length digits
    → 2 * length bytes ≡ n
front_long n digits bytes is within =
    let long = spelled_length bytes (take n digits) is in
    let taken = length-take n digits in
    omega arith

-- with the letter `x` in front they are a word
pub word_found : (most i c : ℕ) (digits head read block : List ℕ) → encode_lower head ≡ take (32 * i) digits
    → encode_lower (take (c / 2) read) ≡ take (2 * (c / 2)) block → c ≡ 2 * (c / 2)
    → take c block ≡ take c (drop (32 * i) digits) → 32 * i + c ≤ length digits → IsBytes head → IsBytes read
    → length (head ++ take (c / 2) read) ≤ most
    → (2 * length (head ++ take (c / 2) read) + 1 ≤ length digits + 1)
    × (bytes_in most (take (2 * length (head ++ take (c / 2) read) + 1) (120 ∷ digits))
    ≡ Some (head ++ take (c / 2) read))
word_found most i c digits head read block head_is read_is even block_is within head_fits read_fits few =
    let bytes = head ++ take (c / 2) read in
    let spelled = front_whole i c digits head read block head_is read_is even block_is in
    let long = front_long (32 * i + c) digits bytes spelled within in
    let count : 2 * length bytes + 1 ≡ suc (32 * i + c) = omega arith in
    let word : take (2 * length bytes + 1) (120 ∷ digits) ≡ hex_text bytes =
    ap (λ (n : ℕ). take n (120 ∷ digits)) count ∙ ap (λ (ds : List ℕ). 120 ∷ ds) (sym spelled) in
    let fits = IsBytes-append head (take (c / 2) read) head_fits (IsBytes-take (c / 2) read read_fits) in
    (omega arith, rw word (bytes_again most bytes fits few))

-- the word ends after the bytes that were read
pub word_if : (most i c : ℕ) (text digits head read block new : List ℕ) (found : Option ℕ) → text ≡ 120 ∷ digits
    → encode_lower head ≡ take (32 * i) (drop 1 text) → encode_lower (take (c / 2) read) ≡ take (2 * (c / 2)) block
    → take c block ≡ take c (drop (32 * i) digits) → 32 * i + c ≤ length digits → IsBytes head → IsBytes read
    → IfSome found (λ len. c ≡ 2 * (c / 2)) → IfSome found (λ len. new ≡ head ++ take (c / 2) read)
    → IfSome found (λ len. len ≡ 2 * length new + 1) → IfSome found (λ len. length new ≤ most)
    → IfSome found (λ len. bytes_in most (take len text) ≡ Some new)
word_if most i c text digits head read block new None text_is head_is read_is block_is within
    head_fits read_fits even new_is long few =
    tt
word_if most i c text digits head read block new (Some len) text_is head_is read_is block_is within
    head_fits read_fits even new_is long few =
    let head_here : encode_lower head ≡ take (32 * i) digits =
    head_is ∙ ap (λ (t : List ℕ). take (32 * i) (drop 1 t)) text_is in
    let few_here : length (head ++ take (c / 2) read) ≤ most = rw (← new_is) few in
    let found =
    word_found most i c digits head read block head_here read_is even block_is within head_fits read_fits few_here in
    let len_is : len ≡ 2 * length (head ++ take (c / 2) read) + 1 =
    long ∙ ap (λ (n : List ℕ). 2 * length n + 1) new_is in
    rw (text_is, len_is, new_is) found.1

-- a block of digits alone
pub whole_front : (front : ℕ) (read block : List ℕ) → 32 ≤ front → front ≤ 32 → length read ≡ 16 → length block ≡ 32
    → encode_lower (take (front / 2) read) ≡ take (2 * (front / 2)) block → encode_lower read ≡ block
whole_front front read block low high read_len block_len is =
    let whole : front ≡ 32 = omega arith in
    let all : encode_lower (take 16 read) ≡ take 32 block = rw whole at is in
    ap encode_lower (sym (take_all 16 read (omega arith))) ∙ all ∙ take_all 32 block (omega arith)
