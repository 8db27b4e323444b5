-- One step of the loops over bits and bytes, and their ends.
use Rattle.std.proofs.Common.{◌≡◌, ℕ, ◌+◌, ◌^◌, ◌<◌, Bool, true, false, List, [], ◌∷◌, ◌++◌, length, drop, get_or, refl}
use Rattle.std.proofs.Common.{sym, ap, ◌∙◌, arith, add-one, drop-cons, append-nil}
use Rattle.std.proofs.Math.Nat.{mod-eq_of_lt}
use Rattle.std.proofs.lemmas.List.Concat.{flat_map-cons}
use Rattle.fr_frame.specs.Bits.{bits_of, number_of, bits_of_bytes}
use Rattle.fr_frame.specs.Register.{stepped, stepped_all, divided}
use Rattle.fr_frame.proofs.BitLemmas.{number_of-bits_of}
use Rattle.fr_frame.proofs.DivisionLemmas.{divided-step, divided-none, length-stepped}

-- ---- a message, bit by bit and byte by byte

pub divided-next : (p register next bits : List Bool) (i : ℕ) (total : List Bool) → length p ≡ length register
    → 0 < length register → i < length bits
    → next ≡ stepped p register (get_or bits i false)
    → divided (true ∷ p) register (drop i bits) ≡ total → divided (true ∷ p) next (drop (i + 1) bits) ≡ total
divided-next p register next bits i total same some lt e so_far =
    let split : drop i bits ≡ get_or bits i false ∷ drop (i + 1) bits =
    rw (add-one i, drop-cons bits i false lt) refl in
    ap (λ (r : List Bool). divided (true ∷ p) r (drop (i + 1) bits)) e
    ∙ sym (divided-step p register (get_or bits i false) (drop (i + 1) bits) same some)
    ∙ ap (divided (true ∷ p) register) (sym split)
    ∙ so_far

pub divided-bits : (p register bits rest : List Bool) → length p ≡ length register → 0 < length register
    → divided (true ∷ p) register (bits ++ rest) ≡ divided (true ∷ p) (stepped_all p register bits) rest
unfolding stepped_all
divided-bits p register [] rest same some = refl
divided-bits p register (bit ∷ bits) rest same some =
    divided-step p register bit (bits ++ rest) same some
    ∙ divided-bits p (stepped p register bit) bits rest (same ∙ sym (length-stepped p register bit same))
    (omega (arith, length-stepped p register bit same))

pub divided-next_byte : (p register next : List Bool) (bytes : List ℕ) (i : ℕ) (total : List Bool)
    → length p ≡ length register → 0 < length register → i < length bytes
    → next ≡ stepped_all p register (bits_of 8 (get_or bytes i 0))
    → divided (true ∷ p) register (bits_of_bytes (drop i bytes)) ≡ total
    → divided (true ∷ p) next (bits_of_bytes (drop (i + 1) bytes)) ≡ total
divided-next_byte p register next bytes i total same some lt e so_far =
    let split : drop i bytes ≡ get_or bytes i 0 ∷ drop (i + 1) bytes = rw (add-one i, drop-cons bytes i 0 lt) refl in
    ap (λ (r : List Bool). divided (true ∷ p) r (bits_of_bytes (drop (i + 1) bytes))) e
    ∙ sym (divided-bits p register (bits_of 8 (get_or bytes i 0)) (bits_of_bytes (drop (i + 1) bytes)) same some)
    ∙ ap (divided (true ∷ p) register) (sym (ap bits_of_bytes split ∙ flat_map-cons (bits_of 8) (get_or bytes i 0)
    (drop (i + 1) bytes)))
    ∙ so_far

-- ---- the end

pub number-divided : (divisor : List Bool) (w n : ℕ) (rest total : List Bool) → n < 2 ^ w → rest ≡ []
    → divided divisor (bits_of w n) rest ≡ total → n ≡ number_of total
number-divided divisor w n rest total lt none so_far =
    let e : bits_of w n ≡ total = sym (divided-none divisor (bits_of w n)) ∙ ap (divided divisor (bits_of w n))
    (sym none) ∙ so_far in
    sym (mod-eq_of_lt lt) ∙ sym (number_of-bits_of w n) ∙ ap number_of e

pub bits-divided : (divisor : List Bool) (w n : ℕ) (rest total : List Bool) → rest ≡ []
    → divided divisor (bits_of w n) rest ≡ total → bits_of w n ≡ total
bits-divided divisor w n rest total none so_far = sym (divided-none divisor (bits_of w n)) ∙ ap
    (divided divisor (bits_of w n)) (sym none) ∙ so_far

-- ---- the length of a check

length-stepped_all : (p register bits : List Bool) → length p ≡ length register
    → length (stepped_all p register bits) ≡ length register
unfolding stepped_all
length-stepped_all p register [] same = refl
length-stepped_all p register (bit ∷ bits) same =
    length-stepped_all p (stepped p register bit) bits (same ∙ sym (length-stepped p register bit same))
    ∙ length-stepped p register bit same

pub length-divided : (p register bits : List Bool) → length p ≡ length register → 0 < length register
    → length (divided (true ∷ p) register bits) ≡ length register
length-divided p register bits same some =
    ap length (ap (divided (true ∷ p) register) (sym (append-nil bits)) ∙ divided-bits p register bits [] same some
    ∙ divided-none (true ∷ p) (stepped_all p register bits))
    ∙ length-stepped_all p register bits same
