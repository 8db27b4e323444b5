-- Fields of a number and of its bits.
use Rattle.std.proofs.Common.{◌≡◌, ℕ, zero, suc, ◌+◌, ◌-◌, ◌*◌, ◌/◌, ◌%◌, ◌^◌, ◌≤◌, ◌<◌, Bool, List, [], ◌∷◌, ◌++◌}
use Rattle.std.proofs.Common.{length, take, drop, get_or, refl, sym, ap, subst, ◌∙◌, arith, add_comm, bit_and, bit_or}
use Rattle.std.specs.Int.{bit_at}
use Rattle.std.proofs.lemmas.List.{take_at, drop_at, take_more, append-nil}
use Rattle.std.proofs.lemmas.List.Concat.{flat_map-append, flat_map-cons}
use Rattle.std.proofs.lemmas.Nat.{shr-shr, shr_high, mod_low, or_shifted, or_lt, and_mask, mod_below, pow_pos}
use Rattle.std.proofs.lemmas.Nat.{shl_whole, shl_below}
use Rattle.std.proofs.Math.Nat.{mod-eq_of_lt}
use Rattle.std.proofs.Math.Pow.{pow_mono}
use Rattle.fr_frame.specs.Bits.{bits_of, number_of, bits_of_bytes}
use Rattle.fr_frame.proofs.BitLemmas.{length-bits_of, bits_of-mod, number_of-bits_of}

-- the bits of a number are those of its high part and then those of its low part
pub bits_of-split : (w k n : ℕ) → bits_of (w + k) n ≡ bits_of w (n / 2 ^ k) ++ bits_of k n
unfolding bits_of
bits_of-split zero k n = ap (λ (m : ℕ). bits_of m n) (omega arith)
bits_of-split (suc w) k n =
    let more : suc w + k ≡ suc (w + k) = omega arith in
    let digit : bit_at n (w + k) ≡ bit_at (n / 2 ^ k) w = ap (λ (x : ℕ). x % 2)
    (ap (λ (m : ℕ). n / 2 ^ m) (add_comm w k) ∙ sym (shr-shr n k w)) in
    ap (λ (m : ℕ). bits_of m n) more ∙ rw (digit, bits_of-split w k n) refl

-- a field after others
pub bits_of-field : (before count low n : ℕ) → take count (drop before (bits_of (before + (count + low)) n)) ≡ bits_of
    count (n / 2 ^ low)
bits_of-field before count low n =
    let high = bits_of before (n / 2 ^ (count + low)) in
    let split : bits_of (before + (count + low)) n ≡ high ++ (bits_of count (n / 2 ^ low) ++ bits_of low n) =
    bits_of-split before (count + low) n ∙ ap (λ (t : List Bool). high ++ t) (bits_of-split count low n) in
    ap (λ (t : List Bool). take count (drop before t)) split
    ∙ ap (take count) (drop_at high (bits_of count (n / 2 ^ low) ++ bits_of low n) before
    (length-bits_of before (n / 2 ^ (count + low))))
    ∙ take_at (bits_of count (n / 2 ^ low)) (bits_of low n) count (length-bits_of count (n / 2 ^ low))

-- a byte after a number
pub bits_of-byte : (w a b : ℕ) → b < 256 → bits_of (w + 8) (a * 256 + b) ≡ bits_of w a ++ bits_of 8 b
bits_of-byte w a b h =
    let low : bits_of 8 (a * 256 + b) ≡ bits_of 8 b = sym (bits_of-mod 8 (a * 256 + b)) ∙ ap (bits_of 8)
    (mod_low a 8 b h) in
    bits_of-split w 8 (a * 256 + b) ∙ ap (λ (x : ℕ). bits_of w x ++ bits_of 8 (a * 256 + b)) (shr_high a 8 b h) ∙ ap
    (λ (t : List Bool). bits_of w a ++ t) low

-- ---- a number read byte by byte

pub number-more : (bytes : List ℕ) (i n b : ℕ) → i < length bytes → i < 8 → b ≡ get_or bytes i 0 → b < 256
    → n < 2 ^ (8 * i)
    → bits_of (8 * i) n ≡ bits_of_bytes (take i bytes)
    → bits_of (8 * (i + 1)) (bit_or (n * 256 % 2 ^ 64) b) ≡ bits_of_bytes (take (i + 1) bytes)
number-more bytes i n b within small is fits below so_far =
    let whole : n * 256 % 2 ^ 64 ≡ n * 256 = shl_whole n (8 * i) 8 64 below (omega arith) in
    let sum : bit_or (n * 256 % 2 ^ 64) b ≡ n * 256 + b = ap (λ (x : ℕ). bit_or x b) whole ∙ or_shifted n 8 b fits in
    let wide : 8 * (i + 1) ≡ 8 * i + 8 = omega arith in
    let one : bits_of_bytes (b ∷ []) ≡ bits_of 8 b = flat_map-cons (bits_of 8) b [] ∙ append-nil (bits_of 8 b) in
    let more : bits_of_bytes (take (i + 1) bytes) ≡ bits_of_bytes (take i bytes) ++ bits_of 8 b =
    ap bits_of_bytes (take_more bytes i 0 within ∙ ap (λ (x : ℕ). take i bytes ++ x ∷ []) (sym is))
    ∙ flat_map-append (bits_of 8) (take i bytes) (b ∷ []) ∙ ap
    (λ (t : List Bool). bits_of_bytes (take i bytes) ++ t) one in
    ap (λ (x : ℕ). bits_of (8 * (i + 1)) x) sum ∙ ap (λ (m : ℕ). bits_of m (n * 256 + b)) wide
    ∙ bits_of-byte (8 * i) n b fits ∙ ap (λ (t : List Bool). t ++ bits_of 8 b) so_far ∙ sym more

pub number-more_fits : (i n b : ℕ) → i < 8 → b < 256 → n < 2 ^ (8 * i) → bit_or (n * 256 % 2 ^ 64) b < 2 ^ (8 * (i + 1))
number-more_fits i n b small fits below =
    let whole : n * 256 % 2 ^ 64 ≡ n * 256 = shl_whole n (8 * i) 8 64 below (omega arith) in
    let wide : 8 * i + 8 ≡ 8 * (i + 1) = omega arith in
    let high : n * 256 < 2 ^ (8 * (i + 1)) = subst (λ (m : ℕ). n * 256 < 2 ^ m) wide (shl_below n (8 * i) 8 below) in
    let widest : 2 ^ 8 ≤ 2 ^ (8 * (i + 1)) = pow_mono {i = 8} {j = 8 * (i + 1)} (omega arith) in
    let low : b < 2 ^ (8 * (i + 1)) = omega arith in
    rw whole (or_lt (8 * (i + 1)) (n * 256) b high low)

-- the number read is the one that the bits spell
pub number-read : (xs : List ℕ) (n : ℕ) → bits_of (8 * length xs) n ≡ bits_of_bytes xs → n < 2 ^ (8 * length xs)
    → number_of (bits_of_bytes xs) ≡ n
number-read xs n is fits = ap number_of (sym is) ∙ number_of-bits_of (8 * length xs) n ∙ mod-eq_of_lt fits

-- a field as the code takes it
pub field-bits : (before count low n : ℕ) (bits : List Bool) → bits_of (before + (count + low)) n ≡ bits
    → take count (drop before bits) ≡ bits_of count (bit_and (n / 2 ^ low) (2 ^ count - 1))
field-bits before count low n bits e =
    ap (λ (t : List Bool). take count (drop before t)) (sym e) ∙ bits_of-field before count low n
    ∙ sym (ap (bits_of count) (and_mask (n / 2 ^ low) count) ∙ bits_of-mod count (n / 2 ^ low))

pub field-number : (before count low n : ℕ) (bits : List Bool) → bits_of (before + (count + low)) n ≡ bits
    → number_of (take count (drop before bits)) ≡ bit_and (n / 2 ^ low) (2 ^ count - 1)
field-number before count low n bits e =
    ap number_of (field-bits before count low n bits e) ∙ number_of-bits_of count
    (bit_and (n / 2 ^ low) (2 ^ count - 1))
    ∙ ap (λ (x : ℕ). x % 2 ^ count) (and_mask (n / 2 ^ low) count) ∙ mod-eq_of_lt
    (mod_below (n / 2 ^ low) (2 ^ count) (pow_pos count))
    ∙ sym (and_mask (n / 2 ^ low) count)
