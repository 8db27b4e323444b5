-- The bits of a number after a shift, a mask or an xor.
use Rattle.std.proofs.Common.{◌≡◌, ℕ, zero, suc, ◌+◌, ◌-◌, ◌*◌, ◌/◌, ◌%◌, ◌^◌, ◌≤◌, ◌<◌, Bool, true, false, not, cond}
use Rattle.std.proofs.Common.{eqb, leb, List, [], ◌∷◌, ◌++◌, length, refl, sym, ap, subst, ◌∙◌, arith, inl, inr}
use Rattle.std.proofs.Common.{add_comm, bit_and}
use Rattle.std.proofs.Math.Nat.{mod-one}
use mathlib.Core.Bool.{beq}
use Rattle.std.specs.Int.{bit_at}
use Rattle.std.specs.Int.Bits.{bit_xor}
use Rattle.std.proofs.lemmas.Nat.{mod-pow-add, shl-shr, shr_split, shr_below, le-div, div_below, pow_pos, mod_below}
use Rattle.std.proofs.lemmas.Nat.{and_mask, shl_whole, shl_below, xor_comm}
use Rattle.std.proofs.lemmas.Bool.{cases_lt, lt-leb, le-leb}
use Rattle.std.proofs.lemmas.Nat.Bits.{bit_at_xor, bit_at-lt, bit_at-suc, bit_at_lowest, bit_at_cat_low}
use Rattle.fr_frame.specs.Bits.{bits_of, number_of}
use Rattle.fr_frame.specs.Crc.{differ}
use Rattle.fr_frame.specs.Register.{xor_bits, stepped}

-- the test of a bit
abbrev bit_test : ℕ → ℕ → Bool
bit_test n i = eqb (bit_at n i) 1

pub length-bits_of : (w n : ℕ) → length (bits_of w n) ≡ w
unfolding bits_of
length-bits_of zero n = refl
length-bits_of (suc w) n = omega (arith, length-bits_of w n)

-- numbers that have the same lowest bits
pub same_bits_of : (w a b : ℕ) → ((i : ℕ) → i < w → bit_at a i ≡ bit_at b i) → bits_of w a ≡ bits_of w b
unfolding bits_of
same_bits_of zero a b h = refl
same_bits_of (suc w) a b h =
    let below = same_bits_of w a b (λ i lt. h i (omega arith)) in
    rw (h w (omega arith), below) refl

-- a mask of the lowest bits leaves them alone
pub bits_of-mod : (w n : ℕ) → bits_of w (n % 2 ^ w) ≡ bits_of w n
bits_of-mod w n =
    same_bits_of w (n % 2 ^ w) n (λ i lt.
    sym (bit_at_cat_low (n / 2 ^ w) w (n % 2 ^ w) i lt) ∙ ap (λ (x : ℕ). bit_at x i) (shr_split n w))

differ_digits : (x y : ℕ) → x < 2 → y < 2 → eqb ((x + y) % 2) 1 ≡ differ (eqb x 1) (eqb y 1)
differ_digits zero zero hx hy = refl
differ_digits zero (suc zero) hx hy = refl
differ_digits (suc zero) zero hx hy = refl
differ_digits (suc zero) (suc zero) hx hy = refl
differ_digits (suc (suc x)) y hx hy = absurd (omega arith)
differ_digits x (suc (suc y)) hx hy = absurd (omega arith)

pub bits_of-xor : (w a b : ℕ) → bits_of w (bit_xor a b) ≡ xor_bits (bits_of w a) (bits_of w b)
unfolding bits_of
bits_of-xor zero a b = refl
bits_of-xor (suc w) a b =
    rw (bit_at_xor a b w, differ_digits (bit_at a w) (bit_at b w) (bit_at-lt a w) (bit_at-lt b w), bits_of-xor w a b)
    refl

double_half : (a : ℕ) → a * 2 / 2 ≡ a
double_half a = shl-shr a 1

pub bits_of-double : (w a : ℕ) → bits_of (suc w) (a * 2) ≡ bits_of w a ++ false ∷ []
unfolding bits_of
bits_of-double zero a =
    let even : bit_at (a * 2) 0 ≡ 0 = bit_at_lowest (a * 2) ∙ omega arith in
    rw even refl
bits_of-double (suc w) a =
    let top : bit_at (a * 2) (suc w) ≡ bit_at a w = bit_at-suc (a * 2) w ∙ ap (λ (x : ℕ). bit_at x w) (double_half a) in
    rw (top, bits_of-double w a) refl

xor_by_feedback : (f : Bool) (w p n : ℕ) (shifted : List Bool) → shifted ≡ bits_of w n →
    cond f (xor_bits (bits_of w p) shifted) shifted ≡ bits_of w (cond f (bit_xor n p) n)
xor_by_feedback true w p n shifted e = ap (xor_bits (bits_of w p)) e ∙ sym (bits_of-xor w p n) ∙ ap (bits_of w)
    (xor_comm p n)
xor_by_feedback false w p n shifted e = e

-- The register as a number: its top bit and the message's bit decide if the polynomial is xored in.
pub stepped-bits_of : (w p r : ℕ) (bit : Bool) →
    stepped (bits_of (suc w) p) (bits_of (suc w) r) bit
    ≡ bits_of (suc w) (cond (differ (bit_test r w) bit) (bit_xor (r % 2 ^ w * 2) p) (r % 2 ^ w * 2))
unfolding stepped bits_of
stepped-bits_of w p r bit =
    let shifted : bits_of w r ++ false ∷ [] ≡ bits_of (suc w) (r % 2 ^ w * 2) =
    ap (λ (t : List Bool). t ++ false ∷ []) (sym (bits_of-mod w r)) ∙ sym (bits_of-double w (r % 2 ^ w)) in
    xor_by_feedback (differ (bit_test r w) bit) (suc w) p (r % 2 ^ w * 2) (bits_of w r ++ false ∷ []) shifted

digit_value : (d place : ℕ) → d < 2 → cond (eqb d 1) place 0 ≡ d * place
digit_value zero place h = omega arith
digit_value (suc zero) place h = omega arith
digit_value (suc (suc d)) place h = absurd (omega arith)

-- a number is the one that its bits spell
pub number_of-bits_of : (w n : ℕ) → number_of (bits_of w n) ≡ n % 2 ^ w
unfolding bits_of number_of
number_of-bits_of zero n = sym (mod-one n)
number_of-bits_of (suc w) n =
    let split : n % 2 ^ (1 + w) ≡ (n / 2 ^ w % 2 ^ 1) * 2 ^ w + n % 2 ^ w = mod-pow-add n 1 w in
    let place : 1 + w ≡ suc w = omega arith in
    rw (length-bits_of w n, digit_value (bit_at n w) (2 ^ w) (bit_at-lt n w), number_of-bits_of w n)
    (sym (ap (λ (k : ℕ). n % 2 ^ k) (sym place) ∙ split))

-- ---- a register of `suc w` bits in a number of `k` bits

-- the top bit, as a comparison tests it
top_test : (w r : ℕ) → r < 2 ^ suc w → bit_test r w ≡ leb (2 ^ w) r
top_test w r h =
    elim (cases_lt r (2 ^ w)) [
      | inl lt ↦
          let none : r / 2 ^ w ≡ 0 = omega (arith, div_below r (2 ^ w) 1 (pow_pos w) (omega arith)) in
          rw (none, lt-leb (2 ^ w) r lt) refl
      | inr le ↦
          let suc_is : suc w ≡ 1 + w = omega arith in
          let split : r / 2 ^ w * 2 ^ w + r % 2 ^ w ≡ r = shr_split r w in
          let below : r / 2 ^ w < 2 ^ 1 = shr_below r 1 w (subst (λ (x : ℕ). r < 2 ^ x) suc_is h) in
          let some : 1 ≤ r / 2 ^ w = le-div 1 r (2 ^ w) (pow_pos w) (omega arith) in
          let one : r / 2 ^ w ≡ 1 = omega arith in
          rw (one, le-leb (2 ^ w) r le) refl
    ]

feedback_test : (top bit : Bool) → not (beq bit top) ≡ differ top bit
feedback_test true true = refl
feedback_test true false = refl
feedback_test false true = refl
feedback_test false false = refl

shifted_is : (w k r : ℕ) → suc w ≤ k → bit_and r (2 ^ w - 1) * 2 % 2 ^ k ≡ r % 2 ^ w * 2
shifted_is w k r fits =
    let below : r % 2 ^ w < 2 ^ w = mod_below r (2 ^ w) (pow_pos w) in
    rw (and_mask r w) (shl_whole (r % 2 ^ w) w 1 k below (omega arith))

pub stepped-with_feedback : (w k p r : ℕ) (bit : Bool) → suc w ≤ k → r < 2 ^ suc w
    → not (beq bit (leb (2 ^ w) r)) ≡ true
    → bits_of (suc w) (bit_xor (bit_and r (2 ^ w - 1) * 2 % 2 ^ k) p) ≡ stepped (bits_of (suc w) p)
    (bits_of (suc w) r) bit
stepped-with_feedback w k p r bit fits h test =
    let f : differ (bit_test r w) bit ≡ true = ap (λ (t : Bool). differ t bit) (top_test w r h) ∙ sym
    (feedback_test (leb (2 ^ w) r) bit) ∙ test in
    rw (shifted_is w k r fits) (sym (stepped-bits_of w p r bit ∙ ap
    (λ (t : Bool). bits_of (suc w) (cond t (bit_xor (r % 2 ^ w * 2) p) (r % 2 ^ w * 2))) f))

pub stepped-without : (w k p r : ℕ) (bit : Bool) → suc w ≤ k → r < 2 ^ suc w → not (beq bit (leb (2 ^ w) r)) ≡ false
    → bits_of (suc w) (bit_and r (2 ^ w - 1) * 2 % 2 ^ k) ≡ stepped (bits_of (suc w) p) (bits_of (suc w) r) bit
stepped-without w k p r bit fits h test =
    let f : differ (bit_test r w) bit ≡ false = ap (λ (t : Bool). differ t bit) (top_test w r h) ∙ sym
    (feedback_test (leb (2 ^ w) r) bit) ∙ test in
    rw (shifted_is w k r fits) (sym (stepped-bits_of w p r bit ∙ ap
    (λ (t : Bool). bits_of (suc w) (cond t (bit_xor (r % 2 ^ w * 2) p) (r % 2 ^ w * 2))) f))

pub shifted_fits : (w k r : ℕ) → suc w ≤ k → bit_and r (2 ^ w - 1) * 2 % 2 ^ k < 2 ^ suc w
shifted_fits w k r fits =
    let below : r % 2 ^ w < 2 ^ w = mod_below r (2 ^ w) (pow_pos w) in
    rw (shifted_is w k r fits) (subst (λ (x : ℕ). r % 2 ^ w * 2 < 2 ^ x) (add_comm w 1 ∙ omega arith)
    (shl_below (r % 2 ^ w) w 1 below))
