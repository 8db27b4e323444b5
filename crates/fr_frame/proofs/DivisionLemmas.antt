-- A register is long division, one bit at a time.
use Rattle.std.proofs.Common.{◌≡◌, ℕ, suc, ◌≤◌, ◌<◌, Bool, true, false, cond, List, [], ◌∷◌, ◌++◌, length, drop}
use Rattle.std.proofs.Common.{replicate, refl, sym, ap, ◌∙◌, arith, length-append}
use Rattle.std.proofs.lemmas.List.{length-replicate}
use Rattle.fr_frame.specs.Crc.{differ, xor_front, divide_once, divide}
use Rattle.fr_frame.specs.Register.{xor_bits, stepped, divided}

pub differ_assoc : (x y z : Bool) → differ x (differ y z) ≡ differ (differ x y) z
differ_assoc true true true = refl
differ_assoc true true false = refl
differ_assoc true false true = refl
differ_assoc true false false = refl
differ_assoc false true true = refl
differ_assoc false true false = refl
differ_assoc false false true = refl
differ_assoc false false false = refl

pub differ-false_l : (x : Bool) → differ false x ≡ x
differ-false_l true = refl
differ-false_l false = refl

pub differ-false_r : (x : Bool) → differ x false ≡ x
differ-false_r true = refl
differ-false_r false = refl

-- two masks, one after another, are one mask
xor_front-twice : (a b bits : List Bool) → length a ≡ length b → length b ≤ length bits
    → xor_front a (xor_front b bits) ≡ xor_front (xor_bits a b) bits
unfolding xor_front
xor_front-twice [] [] bits same fits = refl
xor_front-twice [] (y ∷ b) bits same fits = absurd (omega arith)
xor_front-twice (x ∷ a) [] bits same fits = absurd (omega arith)
xor_front-twice (x ∷ a) (y ∷ b) [] same fits = absurd (omega arith)
xor_front-twice (x ∷ a) (y ∷ b) (z ∷ bits) same fits = rw (
  differ_assoc x y z,
  xor_front-twice a b bits (omega arith) (omega arith),
) refl

-- a 0 at the end of a mask changes nothing
xor_front-padded : (mask bits : List Bool) → length mask < length bits
    → xor_front (mask ++ false ∷ []) bits ≡ xor_front mask bits
unfolding xor_front
xor_front-padded [] [] fits = absurd (omega arith)
xor_front-padded [] (z ∷ bits) fits = rw (differ-false_l z) refl
xor_front-padded (x ∷ mask) [] fits = absurd (omega arith)
xor_front-padded (x ∷ mask) (z ∷ bits) fits = rw (xor_front-padded mask bits (omega arith)) refl

xor_front-zeros : (mask : List Bool) → xor_front mask (replicate (length mask) false) ≡ mask
unfolding xor_front
xor_front-zeros [] = refl
xor_front-zeros (x ∷ mask) = rw (differ-false_r x, xor_front-zeros mask) refl

divide_once-register : (polynomial register : List Bool) (bit : Bool) (rest : List Bool)
    → length polynomial ≡ length register → 0 < length register → length register ≤ length rest
    → divide_once (true ∷ polynomial) (xor_front register (bit ∷ rest)) ≡ xor_front
    (stepped polynomial register bit) rest
unfolding divide_once xor_front stepped
divide_once-register polynomial [] bit rest same some fits = absurd (omega arith)
divide_once-register polynomial (top ∷ register) bit rest same some fits = by_feedback (differ top bit)
  where
    padded : xor_front (register ++ false ∷ []) rest ≡ xor_front register rest
    padded = xor_front-padded register rest (omega arith)

    by_feedback : (f : Bool) → drop 1 (cond f (xor_front (true ∷ polynomial) (f ∷ xor_front register rest))
        (f ∷ xor_front register rest))
        ≡ xor_front (cond f (xor_bits polynomial (register ++ false ∷ [])) (register ++ false ∷ [])) rest
    by_feedback true = ap (xor_front polynomial) (sym padded) ∙ xor_front-twice polynomial (register ++ false ∷ []) rest
        (omega (arith, length-append register (false ∷ []))) (omega (arith, length-append register (false ∷ [])))
    by_feedback false = sym padded

length-xor_bits : (a b : List Bool) → length a ≡ length b → length (xor_bits a b) ≡ length b
length-xor_bits [] [] same = refl
length-xor_bits [] (y ∷ b) same = absurd (omega arith)
length-xor_bits (x ∷ a) [] same = absurd (omega arith)
length-xor_bits (x ∷ a) (y ∷ b) same = omega (arith, length-xor_bits a b (omega arith))

pub length-stepped : (polynomial register : List Bool) (bit : Bool) → length polynomial ≡ length register
    → length (stepped polynomial register bit) ≡ length register
unfolding stepped
length-stepped polynomial [] bit same = refl
length-stepped polynomial (top ∷ register) bit same = by_feedback (differ top bit)
  where
    by_feedback : (f : Bool) → length (cond f (xor_bits polynomial (register ++ false ∷ [])) (register ++ false ∷ []))
        ≡ suc (length register)
    by_feedback true = length-xor_bits polynomial (register ++ false ∷ [])
        (omega (arith, length-append register (false ∷ []))) ∙ omega (arith, length-append register (false ∷ []))
    by_feedback false = omega (arith, length-append register (false ∷ []))

-- shifting a bit into the register is one step of the division
pub divided-step : (polynomial register : List Bool) (bit : Bool) (rest : List Bool)
    → length polynomial ≡ length register → 0 < length register
    → divided (true ∷ polynomial) register (bit ∷ rest) ≡ divided (true ∷ polynomial)
    (stepped polynomial register bit) rest
unfolding divide
divided-step polynomial register bit rest same some =
    let zeros = replicate (length register) false in
    let len : length zeros ≡ length register = length-replicate (length register) false in
    ap (divide (true ∷ polynomial) (length rest)) (divide_once-register polynomial register bit
    (rest ++ zeros) same some (omega (arith, length-append rest zeros)))
    ∙ ap (λ (n : ℕ). divide (true ∷ polynomial) (length rest)
    (xor_front (stepped polynomial register bit) (rest ++ replicate n false)))
    (sym (length-stepped polynomial register bit same))

pub divided-none : (divisor register : List Bool) → divided divisor register [] ≡ register
unfolding divide
divided-none divisor register = xor_front-zeros register
