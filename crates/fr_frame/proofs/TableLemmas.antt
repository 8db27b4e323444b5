-- A check by tables: each entry is the result of the division, and a message is divided one or more bytes at a time.
use Rattle.std.proofs.Common.{◌≡◌, ℕ, zero, suc, ◌+◌, ◌*◌, ◌/◌, ◌%◌, ◌^◌, ◌<◌, Bool, true, false, ◌&&◌, eqb, List}
use Rattle.std.proofs.Common.{[], ◌∷◌, ◌++◌, length, drop, take, get_or, replicate, refl, sym, ap, ◌∙◌, arith, bit_and}
use Rattle.std.proofs.Common.{length-append, append-nil, lit<, lit≤}
use Rattle.std.specs.Int.{bytes_high_first, to_be_bytes, from_be_bytes, w32}
use Rattle.std.specs.Int.Bits.{bit_xor}
use Rattle.std.specs.Simd.{first_chunks}
use Rattle.std.proofs.lemmas.Bool.{and_parts, eqb-true}
use Rattle.std.proofs.lemmas.List.{append_assoc, length-replicate, drop-drop, take-append-drop}
use Rattle.std.proofs.lemmas.List.Concat.{flat_map-cons, flat_map-append}
use Rattle.std.proofs.lemmas.Nat.{xor_comm, xor_lt, be_bytes_4, and_mask, shl_whole, mod_below, pow_pos}
use Rattle.fr_frame.specs.Bits.{bits_of, bits_of_bytes, number_of}
use Rattle.fr_frame.specs.Crc.{header_divisor, header_check, xor_front, divide}
use Rattle.fr_frame.specs.Register.{xor_bits, stepped_all, divided, left_by}
use Rattle.fr_frame.specs.Tables.{row_passes, rows_pass, are_all, are_same}
use Rattle.fr_frame.proofs.BitLemmas.{length-bits_of, bits_of-mod, bits_of-xor, number_of-bits_of}
use Rattle.std.proofs.Math.Nat.{mod-eq_of_lt}
use Rattle.fr_frame.proofs.EncodingLemmas.{bits_of_bytes-high_first}
use Rattle.fr_frame.proofs.FieldLemmas.{bits_of-split, bits_of-byte}
use Rattle.fr_frame.proofs.LoopLemmas.{divided-bits}
use Rattle.fr_frame.proofs.NumberLemmas.{length-bits_of_bytes}
use Rattle.fr_frame.proofs.SumLemmas.{xor_bits_assoc, xor_bits-padded, length-xor_front, xor_front-append}
use Rattle.fr_frame.proofs.SumLemmas.{left_by-append, left_by-zeros, stepped_all-long, stepped_all-short}

-- ---- tables that pass a test

row_at : (test : ℕ → ℕ → Bool) (place : ℕ) (row : List ℕ) (j e : ℕ) → row_passes test place row ≡ true → j < length row
    → test (place + j) (get_or row j e) ≡ true
row_at test place [] j e pass lt = absurd (omega arith)
row_at test place (n ∷ row) zero e pass lt =
    let here : place + 0 ≡ place = omega arith in
    ap (λ (k : ℕ). test k n) here ∙ (and_parts (test place n) (row_passes test (suc place) row) pass).0
row_at test place (n ∷ row) (suc j) e pass lt =
    let next : place + suc j ≡ suc place + j = omega arith in
    ap (λ (k : ℕ). test k (get_or row j e)) next
    ∙ row_at test (suc place) row j e (and_parts (test place n) (row_passes test (suc place) row) pass).1 (omega arith)

tables_at : (test : ℕ → ℕ → ℕ → Bool) (place : ℕ) (rows : List (List ℕ)) (i j : ℕ) (d : List ℕ) (e : ℕ)
    → rows_pass test place rows ≡ true
    → i < length rows → j < 256 → test (place + i) j (get_or (get_or rows i d) j e) ≡ true
tables_at test place [] i j d e pass row_lt lt = absurd (omega arith)
tables_at test place (row ∷ rows) zero j d e pass row_lt lt =
    let parts = and_parts (eqb (length row) 256 && row_passes (test place) 0 row)
    (rows_pass test (suc place) rows) pass in
    let here = and_parts (eqb (length row) 256) (row_passes (test place) 0 row) parts.0 in
    let long : length row ≡ 256 = eqb-true (length row) 256 here.0 in
    let same : place + 0 ≡ place = omega arith in
    let first : 0 + j ≡ j = omega arith in
    ap (λ (k : ℕ). test k j (get_or row j e)) same ∙ ap (λ (k : ℕ). test place k (get_or row j e)) (sym first)
    ∙ row_at (test place) 0 row j e here.1 (omega (arith, long))
tables_at test place (row ∷ rows) (suc i) j d e pass row_lt lt =
    let parts = and_parts (eqb (length row) 256 && row_passes (test place) 0 row)
    (rows_pass test (suc place) rows) pass in
    let next : place + suc i ≡ suc place + i = omega arith in
    ap (λ (k : ℕ). test k j (get_or (get_or rows i d) j e)) next ∙ tables_at test (suc place) rows i j d e parts.1
    (omega arith) lt

pub entry_passes : (test : ℕ → ℕ → ℕ → Bool) (rows : List (List ℕ)) (i j : ℕ) (d : List ℕ) (e : ℕ)
    → are_all test rows ≡ true
    → i < length rows → j < 256 → test i j (get_or (get_or rows i d) j e) ≡ true
entry_passes test rows i j d e pass row_lt lt =
    let first : i ≡ 0 + i = omega arith in
    ap (λ (k : ℕ). test k j (get_or (get_or rows i d) j e)) first ∙ tables_at test 0 rows i j d e pass row_lt lt

-- ---- entries of a check

pub are_same-true : (xs ys : List Bool) → are_same xs ys ≡ true → xs ≡ ys
are_same-true [] [] h = refl
are_same-true [] (y ∷ ys) h = cc (h)
are_same-true (x ∷ xs) [] h = cc h
are_same-true (true ∷ xs) (true ∷ ys) h = ap (λ (t : List Bool). true ∷ t) (are_same-true xs ys h)
are_same-true (true ∷ xs) (false ∷ ys) h = cc h
are_same-true (false ∷ xs) (true ∷ ys) h = cc h
are_same-true (false ∷ xs) (false ∷ ys) h = ap (λ (t : List Bool). false ∷ t) (are_same-true xs ys h)

-- ---- a message of bytes, by one entry for each

next_entry : (divisor : List Bool) (w a : ℕ) (bytes : List ℕ) (zeros k : ℕ) → k ≡ zeros + length bytes
    → left_by divisor w (bits_of_bytes (a ∷ bytes) ++ replicate (8 * zeros) false)
    ≡ xor_bits (left_by divisor w (bits_of 8 a ++ replicate (8 * k) false))
    (left_by divisor w (bits_of_bytes bytes ++ replicate (8 * zeros) false))
next_entry d w a bytes zeros k is =
    let rest = bits_of_bytes bytes ++ replicate (8 * zeros) false in
    let long : length rest ≡ 8 * k = length-append (bits_of_bytes bytes) (replicate (8 * zeros) false) ∙ omega
    (arith, length-bits_of_bytes bytes, length-replicate (8 * zeros) false, is) in
    ap (left_by d w) (ap (λ (t : List Bool). t ++ replicate (8 * zeros) false) (flat_map-cons (bits_of 8) a bytes)
    ∙ append_assoc (bits_of 8 a) (bits_of_bytes bytes) (replicate (8 * zeros) false))
    ∙ left_by-append d w (bits_of 8 a) rest
    ∙ ap (λ (n : ℕ). xor_bits (left_by d w (bits_of 8 a ++ replicate n false)) (left_by d w rest)) long

last_entry : (divisor : List Bool) (w a zeros : ℕ) → left_by divisor w
    (bits_of_bytes (a ∷ []) ++ replicate (8 * zeros) false) ≡ left_by divisor w
    (bits_of 8 a ++ replicate (8 * zeros) false)
last_entry d w a zeros = ap (λ (t : List Bool). left_by d w (t ++ replicate (8 * zeros) false))
    (flat_map-cons (bits_of 8) a [] ∙ append-nil (bits_of 8 a))

-- the bits of a sum of numbers whose bits are known
bits_of-sum : (w m n : ℕ) (a b : List Bool) → bits_of w m ≡ a → bits_of w n ≡ b → bits_of w (bit_xor m n) ≡ xor_bits a b
bits_of-sum w m n a b m_is n_is = bits_of-xor w m n ∙ ap (λ (t : List Bool). xor_bits t (bits_of w n)) m_is ∙ ap
    (xor_bits a) n_is

pub three_entries : (divisor : List Bool) (w a b c x y z : ℕ)
    → bits_of w x ≡ left_by divisor w (bits_of 8 a ++ replicate 16 false)
    → bits_of w y ≡ left_by divisor w (bits_of 8 b ++ replicate 8 false)
    → bits_of w z ≡ left_by divisor w (bits_of 8 c ++ replicate 0 false)
    → bits_of w (bit_xor (bit_xor x y) z) ≡ left_by divisor w (bits_of_bytes (a ∷ b ∷ c ∷ []))
three_entries d w a b c x y z x_is y_is z_is =
    let xs = left_by d w (bits_of 8 a ++ replicate 16 false) in
    let ys = left_by d w (bits_of 8 b ++ replicate 8 false) in
    let zs = left_by d w (bits_of 8 c ++ replicate 0 false) in
    bits_of-sum w (bit_xor x y) z (xor_bits xs ys) zs (bits_of-sum w x y xs ys x_is y_is) z_is
    ∙ xor_bits_assoc xs ys zs
    ∙ sym (
    ap (left_by d w) (sym (append-nil (bits_of_bytes (a ∷ b ∷ c ∷ []))))
    ∙ next_entry d w a (b ∷ c ∷ []) 0 2 (omega arith)
    ∙ ap (xor_bits xs) (next_entry d w b (c ∷ []) 0 1 (omega arith) ∙ ap (xor_bits ys) (last_entry d w c 0))
    )

pub four_entries : (divisor : List Bool) (w zeros a b c e u x y z : ℕ)
    → bits_of w u ≡ left_by divisor w (bits_of 8 a ++ replicate (8 * (zeros + 3)) false)
    → bits_of w x ≡ left_by divisor w (bits_of 8 b ++ replicate (8 * (zeros + 2)) false)
    → bits_of w y ≡ left_by divisor w (bits_of 8 c ++ replicate (8 * (zeros + 1)) false)
    → bits_of w z ≡ left_by divisor w (bits_of 8 e ++ replicate (8 * zeros) false)
    → bits_of w (bit_xor (bit_xor (bit_xor u x) y) z) ≡ left_by divisor w
    (bits_of_bytes (a ∷ b ∷ c ∷ e ∷ []) ++ replicate (8 * zeros) false)
four_entries d w zeros a b c e u x y z u_is x_is y_is z_is =
    let us = left_by d w (bits_of 8 a ++ replicate (8 * (zeros + 3)) false) in
    let xs = left_by d w (bits_of 8 b ++ replicate (8 * (zeros + 2)) false) in
    let ys = left_by d w (bits_of 8 c ++ replicate (8 * (zeros + 1)) false) in
    let zs = left_by d w (bits_of 8 e ++ replicate (8 * zeros) false) in
    let sum = bits_of-sum w (bit_xor (bit_xor u x) y) z (xor_bits (xor_bits us xs) ys) zs
    (bits_of-sum w (bit_xor u x) y (xor_bits us xs) ys (bits_of-sum w u x us xs u_is x_is) y_is) z_is in
    sum
    ∙ xor_bits_assoc (xor_bits us xs) ys zs ∙ xor_bits_assoc us xs (xor_bits ys zs)
    ∙ sym (
    next_entry d w a (b ∷ c ∷ e ∷ []) zeros (zeros + 3) (omega arith)
    ∙ ap (xor_bits us) (next_entry d w b (c ∷ e ∷ []) zeros (zeros + 2) (omega arith)
    ∙ ap (xor_bits xs) (next_entry d w c (e ∷ []) zeros (zeros + 1) (omega arith) ∙ ap (xor_bits ys)
    (last_entry d w e zeros)))
    )

-- ---- the header CRC

header_initial_bits : bits_of 20 13312 ≡ bits_of 11 0x01A ++ replicate 9 false
unfolding bits_of
header_initial_bits = refl

no_bits_above : bits_of 4 0 ≡ replicate 4 false
unfolding bits_of
no_bits_above = refl

pub header_met : (n : ℕ) → n < 2 ^ 20 → left_by header_divisor 11 (bits_of_bytes (bytes_high_first 3 (bit_xor n 13312)))
    ≡ header_check (bits_of 20 n)
header_met n fits =
    let met = bit_xor n 13312 in
    let initial = bits_of 11 0x01A in
    let message = bits_of 20 n in
    let after = replicate 11 false in
    let below : met < 2 ^ 20 = xor_lt 20 n 13312 fits (lit< tt) in
    let none : met / 2 ^ 20 ≡ 0 = omega (arith, below) in
    let wide : length initial ≡ 11 = length-bits_of 11 0x01A in
    let long : length message ≡ 20 = length-bits_of 20 n in
    let low : bits_of 20 met ≡ xor_front initial message =
    ap (bits_of 20) (xor_comm n 13312) ∙ bits_of-xor 20 13312 n ∙ ap
    (λ (t : List Bool). xor_bits t message) header_initial_bits
    ∙ xor_bits-padded initial message 9 (omega (arith, wide, long)) in
    let bits : bits_of 24 met ≡ replicate 4 false ++ xor_front initial message =
    bits_of-split 4 20 met ∙ ap (λ (x : ℕ). bits_of 4 x ++ bits_of 20 met) none ∙ ap
    (λ (t : List Bool). t ++ bits_of 20 met) no_bits_above
    ∙ ap (λ (t : List Bool). replicate 4 false ++ t) low in
    ap (left_by header_divisor 11) (bits_of_bytes-high_first 3 met ∙ bits)
    ∙ left_by-zeros header_divisor 11 4 (xor_front initial message)
    ∙ ap (λ (k : ℕ). divide header_divisor k (xor_front initial message ++ after)) (length-xor_front initial message)
    ∙ ap (divide header_divisor (length message)) (sym
    (xor_front-append initial message after (omega (arith, wide, long))))
    ∙ ap (λ (k : ℕ). divide header_divisor (length message) (xor_front initial (message ++ replicate k false)))
    (sym wide)

-- ---- the frame CRC's register

pub length-polynomial : (p r : ℕ) → length (bits_of 24 p) ≡ length (bits_of 24 r)
length-polynomial p r = length-bits_of 24 p ∙ sym (length-bits_of 24 r)

pub some_bits : (r : ℕ) → 0 < length (bits_of 24 r)
some_bits r = rw (length-bits_of 24 r) (lit< tt)

one_byte_of_zeros : bits_of 8 0 ≡ replicate 8 false
unfolding bits_of
one_byte_of_zeros = refl

-- the register, xored onto the first four of the next bytes
met_is : (r n : ℕ) (word : List ℕ) → r < 2 ^ 24 → bits_of 32 n ≡ bits_of_bytes word → length word ≡ 4
    → bits_of_bytes (to_be_bytes w32 (bit_xor (r * 256 % 2 ^ 32) n)) ≡ xor_front (bits_of 24 r) (bits_of_bytes word)
met_is r n word fits n_is four =
    let whole : r * 256 % 2 ^ 32 ≡ r * 256 + 0 = shl_whole r 24 8 32 fits (lit≤ tt) ∙ omega arith in
    let moved : bits_of 32 (r * 256 % 2 ^ 32) ≡ bits_of 24 r ++ replicate 8 false =
    ap (bits_of 32) whole ∙ bits_of-byte 24 r 0 (lit< tt) ∙ ap
    (λ (t : List Bool). bits_of 24 r ++ t) one_byte_of_zeros in
    bits_of_bytes-high_first 4 (bit_xor (r * 256 % 2 ^ 32) n)
    ∙ bits_of-sum 32 (r * 256 % 2 ^ 32) n (bits_of 24 r ++ replicate 8 false) (bits_of_bytes word) moved n_is
    ∙ xor_bits-padded (bits_of 24 r) (bits_of_bytes word) 8 (omega
    (arith, length-bits_of 24 r, length-bits_of_bytes word, four))

pub word_bits : (n : ℕ) (word : List ℕ) → length word ≡ 4 → ((i : ℕ) → get_or word i 0 < 256)
    → n ≡ from_be_bytes w32 word → bits_of 32 n ≡ bits_of_bytes word
word_bits n word four fits is = sym (bits_of_bytes-high_first 4 n) ∙ ap bits_of_bytes (be_bytes_4 word n four fits is)

-- the sum of the entries of two stretches is the register after both together
pub stretches_add : (divisor : List Bool) (w zeros x y : ℕ) (front back : List ℕ)
    → bits_of w x ≡ left_by divisor w (bits_of_bytes front ++ replicate (8 * (zeros + length back)) false)
    → bits_of w y ≡ left_by divisor w (bits_of_bytes back ++ replicate (8 * zeros) false)
    → bits_of w (bit_xor x y) ≡ left_by divisor w (bits_of_bytes (front ++ back) ++ replicate (8 * zeros) false)
stretches_add d w zeros x y front back x_is y_is =
    let zero_bits = replicate (8 * zeros) false in
    let rest = bits_of_bytes back ++ zero_bits in
    let long : length rest ≡ 8 * (zeros + length back) = length-append (bits_of_bytes back) zero_bits ∙ omega
    (arith, length-bits_of_bytes back, length-replicate (8 * zeros) false) in
    let both : bits_of_bytes (front ++ back) ++ zero_bits ≡ bits_of_bytes front ++ rest =
    ap (λ (t : List Bool). t ++ zero_bits) (flat_map-append (bits_of 8) front back) ∙ append_assoc (bits_of_bytes front)
    (bits_of_bytes back) zero_bits in
    bits_of-sum w x y (left_by d w (bits_of_bytes front ++ replicate (length rest) false)) (left_by d w rest)
    (x_is ∙ ap (λ (k : ℕ). left_by d w (bits_of_bytes front ++ replicate k false)) (sym long)) y_is
    ∙ sym (left_by-append d w (bits_of_bytes front) rest)
    ∙ ap (left_by d w) (sym both)

-- the register, xored onto the first four of the next bytes, is stepped over all of them
pub register_met : (p r n : ℕ) (front back : List ℕ) → r < 2 ^ 24 → bits_of 32 n ≡ bits_of_bytes front
    → length front ≡ 4
    → left_by (true ∷ bits_of 24 p) 24 (bits_of_bytes (to_be_bytes w32 (bit_xor (r * 256 % 2 ^ 32) n) ++ back))
    ≡ stepped_all (bits_of 24 p) (bits_of 24 r) (bits_of_bytes (front ++ back))
register_met p r n front back fits n_is four =
    let d = true ∷ bits_of 24 p in
    let register = bits_of 24 r in
    let met = to_be_bytes w32 (bit_xor (r * 256 % 2 ^ 32) n) in
    let last = bits_of_bytes back in
    let first : length (bits_of_bytes front) ≡ 32 = length-bits_of_bytes front ∙ ap (λ (k : ℕ). 8 * k) four in
    let wide : length register ≡ 24 = length-bits_of 24 r in
    let both : bits_of_bytes (front ++ back) ≡ bits_of_bytes front ++ last = flat_map-append (bits_of 8) front back in
    ap (left_by d 24) (flat_map-append (bits_of 8) met back ∙ ap (λ (t : List Bool). t ++ last)
    (met_is r n front fits n_is four)
    ∙ sym (xor_front-append register (bits_of_bytes front) last (omega (arith, wide, first))))
    ∙ ap (λ (k : ℕ). left_by d k (xor_front register (bits_of_bytes front ++ last))) (sym wide)
    ∙ sym (stepped_all-long (bits_of 24 p) register (bits_of_bytes front ++ last) (length-polynomial p r) (some_bits r)
    (omega (arith, wide, first, length-append (bits_of_bytes front) last)))
    ∙ ap (stepped_all (bits_of 24 p) register) (sym both)

-- the same for an entry of all these bytes
pub block_steps : (p r n x : ℕ) (front back : List ℕ) → r < 2 ^ 24 → bits_of 32 n ≡ bits_of_bytes front
    → length front ≡ 4
    → bits_of 24 x ≡ left_by (true ∷ bits_of 24 p) 24 (bits_of_bytes
    (to_be_bytes w32 (bit_xor (r * 256 % 2 ^ 32) n) ++ back) ++ replicate 0 false)
    → bits_of 24 x ≡ stepped_all (bits_of 24 p) (bits_of 24 r) (bits_of_bytes (front ++ back))
block_steps p r n x front back fits n_is four x_is =
    x_is ∙ ap (left_by (true ∷ bits_of 24 p) 24) (append-nil
    (bits_of_bytes (to_be_bytes w32 (bit_xor (r * 256 % 2 ^ 32) n) ++ back)))
    ∙ register_met p r n front back fits n_is four

-- the low sixteen bits, moved up by a byte
pub moved_is : (r : ℕ) → bit_and r 65535 * 256 % 2 ^ 32 ≡ r % 2 ^ 16 * 256
moved_is r =
    let below : r % 2 ^ 16 < 2 ^ 16 = mod_below r (2 ^ 16) (pow_pos 16) in
    rw (and_mask r 16) (shl_whole (r % 2 ^ 16) 16 8 32 below (lit≤ tt))

pub moved_fits : (r : ℕ) → bit_and r 65535 * 256 % 2 ^ 32 < 2 ^ 24
moved_fits r = omega (arith, moved_is r, mod_below r (2 ^ 16) (pow_pos 16))

-- one byte
pub byte_steps : (p r byte x : ℕ) → r < 2 ^ 24 → bits_of 24 x ≡ left_by (true ∷ bits_of 24 p) 24
    (bits_of 8 (bit_xor (r / 2 ^ 16) byte) ++ replicate 0 false)
    → bits_of 24 (bit_xor x (bit_and r 65535 * 256 % 2 ^ 32)) ≡ stepped_all (bits_of 24 p) (bits_of 24 r)
    (bits_of 8 byte)
byte_steps p r byte x fits x_is =
    let d = true ∷ bits_of 24 p in
    let high = bits_of 8 (r / 2 ^ 16) in
    let low = bits_of 16 r in
    let bits = bits_of 8 byte in
    let split : bits_of 24 r ≡ high ++ low = bits_of-split 8 16 r in
    let wide : length (high ++ low) ≡ 24 = ap length (sym split) ∙ length-bits_of 24 r in
    let eight : length bits ≡ 8 = length-bits_of 8 byte in
    let entry : bits_of 24 x ≡ left_by d (length (high ++ low)) (xor_bits high bits) =
    x_is ∙ ap (left_by d 24) (append-nil (bits_of 8 (bit_xor (r / 2 ^ 16) byte)) ∙ bits_of-xor 8 (r / 2 ^ 16) byte)
    ∙ ap (λ (k : ℕ). left_by d k (xor_bits high bits)) (sym wide) in
    let up : r % 2 ^ 16 * 256 ≡ r % 2 ^ 16 * 256 + 0 = omega arith in
    let rest : bits_of 24 (bit_and r 65535 * 256 % 2 ^ 32) ≡ low ++ replicate (length bits) false =
    ap (bits_of 24) (moved_is r ∙ up) ∙ bits_of-byte 16 (r % 2 ^ 16) 0 (lit< tt)
    ∙ ap (λ (t : List Bool). t ++ bits_of 8 0) (bits_of-mod 16 r) ∙ ap (λ (t : List Bool). low ++ t) one_byte_of_zeros
    ∙ ap (λ (k : ℕ). low ++ replicate k false) (sym eight) in
    bits_of-sum 24 x (bit_and r 65535 * 256 % 2 ^ 32) (left_by d (length (high ++ low)) (xor_bits high bits))
    (low ++ replicate (length bits) false) entry rest
    ∙ sym (stepped_all-short (bits_of 24 p) high low bits (length-bits_of 24 p ∙ sym wide) (rw wide (lit< tt))
    (length-bits_of 8 (r / 2 ^ 16) ∙ sym eight))
    ∙ ap (λ (t : List Bool). stepped_all (bits_of 24 p) t bits) (sym split)

-- ---- blocks of a message

pub block_at : (size count i : ℕ) (bytes default : List ℕ) → i < count
    → get_or (first_chunks size count bytes) i default ≡ take size (drop (i * size) bytes)
block_at size zero i bytes default lt = absurd (omega arith)
block_at size (suc count) zero bytes default lt = let none : 0 ≡ 0 * size =
    omega arith in ap (λ (n : ℕ). take size (drop n bytes)) none
block_at size (suc count) (suc i) bytes default lt =
    let more : size + i * size ≡ suc i * size = omega arith in
    block_at size count i (drop size bytes) default (omega arith)
    ∙ ap (take size) (drop-drop (i * size) size bytes ∙ ap (λ (n : ℕ). drop n bytes) more)

-- shifting a block into the register is a block of steps of the division
pub divided-next_block : (size : ℕ) (p register next : List Bool) (bytes : List ℕ) (i : ℕ) (total : List Bool)
    → length p ≡ length register → 0 < length register
    → next ≡ stepped_all p register (bits_of_bytes (take size (drop (i * size) bytes)))
    → divided (true ∷ p) register (bits_of_bytes (drop (i * size) bytes)) ≡ total
    → divided (true ∷ p) next (bits_of_bytes (drop ((i + 1) * size) bytes)) ≡ total
divided-next_block size p register next bytes i total same some e so_far =
    let left = drop (i * size) bytes in
    let more : i * size + size ≡ (i + 1) * size = omega arith in
    let rest : drop size left ≡ drop ((i + 1) * size) bytes =
    drop-drop size (i * size) bytes ∙ ap (λ (n : ℕ). drop n bytes) more in
    let cut : bits_of_bytes left ≡ bits_of_bytes (take size left) ++ bits_of_bytes (drop ((i + 1) * size) bytes) =
    ap bits_of_bytes (sym (take-append-drop size left)) ∙ flat_map-append (bits_of 8) (take size left) (drop size left)
    ∙ ap (λ (t : List ℕ). bits_of_bytes (take size left) ++ bits_of_bytes t) rest in
    ap (λ (r : List Bool). divided (true ∷ p) r (bits_of_bytes (drop ((i + 1) * size) bytes))) e
    ∙ sym (divided-bits p register (bits_of_bytes (take size left))
    (bits_of_bytes (drop ((i + 1) * size) bytes)) same some)
    ∙ ap (divided (true ∷ p) register) (sym cut)
    ∙ so_far

-- ---- arrays, item by item

pub four_of : (xs : List ℕ) → length xs ≡ 4 → xs ≡ get_or xs 0 0 ∷ get_or xs 1 0 ∷ get_or xs 2 0 ∷ get_or xs 3 0 ∷ []
four_of (a ∷ b ∷ c ∷ d ∷ []) same = refl
four_of [] same = absurd (omega arith)
four_of (a ∷ []) same = absurd (omega arith)
four_of (a ∷ b ∷ []) same = absurd (omega arith)
four_of (a ∷ b ∷ c ∷ []) same = absurd (omega arith)
four_of (a ∷ b ∷ c ∷ d ∷ e ∷ xs) same = absurd (omega arith)

pub eight_of : (xs : List ℕ) → length xs ≡ 8
    → xs ≡ (get_or xs 0 0 ∷ get_or xs 1 0 ∷ get_or xs 2 0 ∷ get_or xs 3 0 ∷ []) ++
    (get_or xs 4 0 ∷ get_or xs 5 0 ∷ get_or xs 6 0 ∷ get_or xs 7 0 ∷ [])
eight_of (a ∷ b ∷ c ∷ d ∷ xs) same =
    ap (λ (t : List ℕ). a ∷ b ∷ c ∷ d ∷ t) (four_of xs (omega arith))
eight_of [] same = absurd (omega arith)
eight_of (a ∷ []) same = absurd (omega arith)
eight_of (a ∷ b ∷ []) same = absurd (omega arith)
eight_of (a ∷ b ∷ c ∷ []) same = absurd (omega arith)

pub sixteen_of : (xs : List ℕ) → length xs ≡ 16
    → xs ≡ (get_or xs 0 0 ∷ get_or xs 1 0 ∷ get_or xs 2 0 ∷ get_or xs 3 0 ∷ []) ++
    ((get_or xs 4 0 ∷ get_or xs 5 0 ∷ get_or xs 6 0 ∷ get_or xs 7 0 ∷ [])
    ++ ((get_or xs 8 0 ∷ get_or xs 9 0 ∷ get_or xs 10 0 ∷ get_or xs 11 0 ∷ []) ++
    (get_or xs 12 0 ∷ get_or xs 13 0 ∷ get_or xs 14 0 ∷ get_or xs 15 0 ∷ [])))
sixteen_of (a ∷ b ∷ c ∷ d ∷ e ∷ f ∷ g ∷ h ∷ xs) same =
    ap (λ (t : List ℕ). a ∷ b ∷ c ∷ d ∷ e ∷ f ∷ g ∷ h ∷ t) (eight_of xs (omega arith))
sixteen_of [] same = absurd (omega arith)
sixteen_of (a ∷ []) same = absurd (omega arith)
sixteen_of (a ∷ b ∷ []) same = absurd (omega arith)
sixteen_of (a ∷ b ∷ c ∷ []) same = absurd (omega arith)
sixteen_of (a ∷ b ∷ c ∷ d ∷ []) same = absurd (omega arith)
sixteen_of (a ∷ b ∷ c ∷ d ∷ e ∷ []) same = absurd (omega arith)
sixteen_of (a ∷ b ∷ c ∷ d ∷ e ∷ f ∷ []) same = absurd (omega arith)
sixteen_of (a ∷ b ∷ c ∷ d ∷ e ∷ f ∷ g ∷ []) same = absurd (omega arith)

pub four_fit : (a b c d : ℕ) → a < 256 → b < 256 → c < 256 → d < 256 → (i : ℕ) → get_or (a ∷ b ∷ c ∷ d ∷ []) i 0 < 256
four_fit a b c d ha hb hc hd zero = ha
four_fit a b c d ha hb hc hd (suc zero) = hb
four_fit a b c d ha hb hc hd (suc (suc zero)) = hc
four_fit a b c d ha hb hc hd (suc (suc (suc zero))) = hd
four_fit a b c d ha hb hc hd (suc (suc (suc (suc i)))) = lit< tt

-- ---- a number by its bits

pub number_by_bits : (w n : ℕ) (bits : List Bool) → n < 2 ^ w → bits_of w n ≡ bits → n ≡ number_of bits
number_by_bits w n bits fits is = sym (mod-eq_of_lt fits) ∙ sym (number_of-bits_of w n) ∙ ap number_of is
