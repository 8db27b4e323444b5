-- Bits and the number that they spell.
use Rattle.std.proofs.Common.{◌≡◌, ℕ, suc, ◌+◌, ◌*◌, ◌%◌, ◌^◌, ◌≤◌, ◌<◌, Bool, true, false, cond, eqb, List, [], ◌∷◌}
use Rattle.std.proofs.Common.{◌++◌, length, refl, sym, ap, ◌∙◌, arith, bit_or, lit<, length-append}
use Rattle.std.proofs.Math.Nat.{pow-suc}
use Rattle.std.proofs.lemmas.List.Concat.{flat_map-cons}
use Rattle.std.proofs.lemmas.Nat.{shr_high, mod_low, shl_whole, or_shifted}
use Rattle.fr_frame.specs.Bits.{bits_of, number_of, bits_of_bytes}
use Rattle.fr_frame.proofs.BitLemmas.{length-bits_of, bits_of-mod}
use Rattle.fr_frame.proofs.FieldLemmas.{bits_of-split}

-- a number after another
pub bits_of-joined : (w k a b : ℕ) → b < 2 ^ k → bits_of (w + k) (a * 2 ^ k + b) ≡ bits_of w a ++ bits_of k b
bits_of-joined w k a b h =
    let low : bits_of k (a * 2 ^ k + b) ≡ bits_of k b = sym (bits_of-mod k (a * 2 ^ k + b)) ∙ ap (bits_of k)
    (mod_low a k b h) in
    bits_of-split w k (a * 2 ^ k + b) ∙ ap (λ (x : ℕ). bits_of w x ++ bits_of k (a * 2 ^ k + b)) (shr_high a k b h) ∙ ap
    (λ (t : List Bool). bits_of w a ++ t) low

-- the same, as the code joins them in an integer of `m` bits
pub or_is : (w k m a b : ℕ) → a < 2 ^ w → b < 2 ^ k → w + k ≤ m → bit_or (a * 2 ^ k % 2 ^ m) b ≡ a * 2 ^ k + b
or_is w k m a b below h fits = ap (λ (x : ℕ). bit_or x b) (shl_whole a w k m below fits) ∙ or_shifted a k b h

digit_is : (bit : Bool) (place : ℕ) → cond bit place 0 ≡ cond bit 1 0 * place
digit_is true place = omega arith
digit_is false place = omega arith

pub bits_of-digit : (bit : Bool) → bits_of 1 (cond bit 1 0) ≡ bit ∷ []
unfolding bits_of
bits_of-digit true = refl
bits_of-digit false = refl

pub number_of-fits : (bits : List Bool) → number_of bits < 2 ^ length bits
unfolding number_of
number_of-fits [] = lit< tt
number_of-fits (true ∷ bits) = omega (arith, number_of-fits bits, pow-suc 2 (length bits))
number_of-fits (false ∷ bits) = omega (arith, number_of-fits bits, pow-suc 2 (length bits))

pub bits_of-none : (n : ℕ) → bits_of 0 n ≡ []
unfolding bits_of
bits_of-none n = refl

-- bits are those of the number that they spell
pub bits_of-number_of : (bits : List Bool) → bits_of (length bits) (number_of bits) ≡ bits
unfolding number_of
bits_of-number_of [] = bits_of-none 0
bits_of-number_of (bit ∷ bits) =
    let one : suc (length bits) ≡ 1 + length bits = omega arith in
    ap (λ (m : ℕ). bits_of m (number_of (bit ∷ bits))) one
    ∙ ap (λ (x : ℕ). bits_of (1 + length bits) (x + number_of bits)) (digit_is bit (2 ^ length bits))
    ∙ bits_of-joined 1 (length bits) (cond bit 1 0) (number_of bits) (number_of-fits bits)
    ∙ ap (λ (t : List Bool). t ++ bits_of (length bits) (number_of bits)) (bits_of-digit bit)
    ∙ ap (λ (t : List Bool). bit ∷ t) (bits_of-number_of bits)

-- the same, for a known length
pub bits_of-spelled : (w : ℕ) (bits : List Bool) → length bits ≡ w → bits_of w (number_of bits) ≡ bits
bits_of-spelled w bits is = ap (λ (m : ℕ). bits_of m (number_of bits)) (sym is) ∙ bits_of-number_of bits

-- bits of one length that spell one number are the same
pub same_bits : (w : ℕ) (a b : List Bool) → length a ≡ w → length b ≡ w → number_of a ≡ number_of b → a ≡ b
same_bits w a b len_a len_b e = sym (bits_of-spelled w a len_a) ∙ ap (bits_of w) e ∙ bits_of-spelled w b len_b

pub length-bits_of_bytes : (bytes : List ℕ) → length (bits_of_bytes bytes) ≡ 8 * length bytes
length-bits_of_bytes [] = refl
length-bits_of_bytes (byte ∷ bytes) =
    ap length (flat_map-cons (bits_of 8) byte bytes)
    ∙ omega (
      arith,
      length-append (bits_of 8 byte) (bits_of_bytes bytes),
      length-bits_of 8 byte,
      length-bits_of_bytes bytes,
    )

-- one bit, as a flag reads it
pub flag_is : (bit : Bool) → eqb (number_of (bit ∷ [])) 1 ≡ bit
unfolding number_of
flag_is true = refl
flag_is false = refl
