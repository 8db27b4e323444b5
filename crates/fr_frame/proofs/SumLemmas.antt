-- The division of a sum of two messages is the sum of their divisions, so a check can be computed by parts.
use Rattle.std.proofs.Common.{◌≡◌, ℕ, zero, suc, ◌+◌, ◌-◌, ◌≤◌, ◌<◌, Bool, true, false, List, [], ◌∷◌, ◌++◌, length}
use Rattle.std.proofs.Common.{drop, replicate, refl, sym, ap, ◌∙◌, arith, length-append, length-drop, append-nil}
use Rattle.std.proofs.lemmas.List.{append_assoc, length-replicate}
use Rattle.fr_frame.specs.Crc.{differ, xor_front, divide_once, divide}
use Rattle.fr_frame.specs.Register.{xor_bits, stepped_all, divided, left_by}
use Rattle.fr_frame.proofs.DivisionLemmas.{differ_assoc, differ-false_l, differ-false_r, divided-none}
use Rattle.fr_frame.proofs.LoopLemmas.{divided-bits}

-- ---- sums of bits

differ-swapped : (m x y : Bool) → differ m (differ x y) ≡ differ x (differ m y)
differ-swapped true true true = refl
differ-swapped true true false = refl
differ-swapped true false true = refl
differ-swapped true false false = refl
differ-swapped false true true = refl
differ-swapped false true false = refl
differ-swapped false false true = refl
differ-swapped false false false = refl

differ-twice : (m x y : Bool) → differ (differ m x) (differ m y) ≡ differ x y
differ-twice true true true = refl
differ-twice true true false = refl
differ-twice true false true = refl
differ-twice true false false = refl
differ-twice false true true = refl
differ-twice false true false = refl
differ-twice false false true = refl
differ-twice false false false = refl

pub xor_bits_assoc : (xs ys zs : List Bool) → xor_bits (xor_bits xs ys) zs ≡ xor_bits xs (xor_bits ys zs)
xor_bits_assoc [] ys zs = refl
xor_bits_assoc (x ∷ xs) [] zs = refl
xor_bits_assoc (x ∷ xs) (y ∷ ys) [] = refl
xor_bits_assoc (x ∷ xs) (y ∷ ys) (z ∷ zs) = rw (differ_assoc x y z, xor_bits_assoc xs ys zs) refl

xor_bits-append : (a b c d : List Bool) → length a ≡ length c
    → xor_bits (a ++ b) (c ++ d) ≡ xor_bits a c ++ xor_bits b d
xor_bits-append [] b [] d same = refl
xor_bits-append [] b (y ∷ c) d same = absurd (omega arith)
xor_bits-append (x ∷ a) b [] d same = absurd (omega arith)
xor_bits-append (x ∷ a) b (y ∷ c) d same = ap (λ (t : List Bool). differ x y ∷ t)
    (xor_bits-append a b c d (omega arith))

xor_bits-zeros_r : (xs : List Bool) (n : ℕ) → length xs ≡ n → xor_bits xs (replicate n false) ≡ xs
xor_bits-zeros_r [] zero same = refl
xor_bits-zeros_r [] (suc n) same = absurd (omega arith)
xor_bits-zeros_r (x ∷ xs) zero same = absurd (omega arith)
xor_bits-zeros_r (x ∷ xs) (suc n) same = rw (differ-false_r x, xor_bits-zeros_r xs n (omega arith)) refl

xor_bits-zeros_l : (xs : List Bool) (n : ℕ) → length xs ≡ n → xor_bits (replicate n false) xs ≡ xs
xor_bits-zeros_l [] zero same = refl
xor_bits-zeros_l [] (suc n) same = absurd (omega arith)
xor_bits-zeros_l (x ∷ xs) zero same = absurd (omega arith)
xor_bits-zeros_l (x ∷ xs) (suc n) same = rw (differ-false_l x, xor_bits-zeros_l xs n (omega arith)) refl

-- a mask at the front is a mask with zeros after it
pub xor_bits-padded : (mask bits : List Bool) (n : ℕ) → length mask + n ≡ length bits
    → xor_bits (mask ++ replicate n false) bits ≡ xor_front mask bits
unfolding xor_front
xor_bits-padded [] bits n same = xor_bits-zeros_l bits n (omega arith)
xor_bits-padded (x ∷ mask) [] n same = absurd (omega arith)
xor_bits-padded (x ∷ mask) (y ∷ bits) n same = ap (λ (t : List Bool). differ x y ∷ t)
    (xor_bits-padded mask bits n (omega arith))

pub zeros-append : (m n : ℕ) → replicate (m + n) false ≡ replicate m false ++ replicate n false
zeros-append zero n = let none : zero + n ≡ n = omega arith in ap (λ (k : ℕ). replicate k false) none
zeros-append (suc m) n =
    let more : suc m + n ≡ suc (m + n) = omega arith in
    ap (λ (k : ℕ). replicate k false) more ∙ ap (λ (t : List Bool). false ∷ t) (zeros-append m n)

-- ---- a mask and a sum

xor_front-sum_l : (mask xs ys : List Bool) → length xs ≡ length ys
    → xor_front mask (xor_bits xs ys) ≡ xor_bits (xor_front mask xs) ys
unfolding xor_front
xor_front-sum_l [] xs ys same = refl
xor_front-sum_l (m ∷ mask) [] ys same = refl
xor_front-sum_l (m ∷ mask) (x ∷ xs) [] same = absurd (omega arith)
xor_front-sum_l (m ∷ mask) (x ∷ xs) (y ∷ ys) same = rw (differ_assoc m x y, xor_front-sum_l mask xs ys (omega arith))
    refl

xor_front-sum_r : (mask xs ys : List Bool) → length xs ≡ length ys
    → xor_front mask (xor_bits xs ys) ≡ xor_bits xs (xor_front mask ys)
unfolding xor_front
xor_front-sum_r [] xs ys same = refl
xor_front-sum_r (m ∷ mask) [] ys same = refl
xor_front-sum_r (m ∷ mask) (x ∷ xs) [] same = absurd (omega arith)
xor_front-sum_r (m ∷ mask) (x ∷ xs) (y ∷ ys) same = rw (differ-swapped m x y, xor_front-sum_r mask xs ys (omega arith))
    refl

xor_front-sum_both : (mask xs ys : List Bool) → length xs ≡ length ys
    → xor_bits xs ys ≡ xor_bits (xor_front mask xs) (xor_front mask ys)
unfolding xor_front
xor_front-sum_both [] xs ys same = refl
xor_front-sum_both (m ∷ mask) [] ys same = refl
xor_front-sum_both (m ∷ mask) (x ∷ xs) [] same = absurd (omega arith)
xor_front-sum_both (m ∷ mask) (x ∷ xs) (y ∷ ys) same = rw (
  differ-twice m x y,
  xor_front-sum_both mask xs ys (omega arith),
) refl

pub length-xor_front : (mask xs : List Bool) → length (xor_front mask xs) ≡ length xs
unfolding xor_front
length-xor_front [] xs = refl
length-xor_front (m ∷ mask) [] = refl
length-xor_front (m ∷ mask) (x ∷ xs) = omega (arith, length-xor_front mask xs)

-- a mask that is no longer than the front
pub xor_front-append : (mask xs ys : List Bool) → length mask ≤ length xs
    → xor_front mask (xs ++ ys) ≡ xor_front mask xs ++ ys
unfolding xor_front
xor_front-append [] xs ys fits = refl
xor_front-append (m ∷ mask) [] ys fits = absurd (omega arith)
xor_front-append (m ∷ mask) (x ∷ xs) ys fits = ap (λ (t : List Bool). differ m x ∷ t)
    (xor_front-append mask xs ys (omega arith))

-- ---- divisions

drop-sum : (xs ys : List Bool) → length xs ≡ length ys → drop 1 (xor_bits xs ys) ≡ xor_bits (drop 1 xs) (drop 1 ys)
drop-sum [] ys same = refl
drop-sum (x ∷ xs) [] same = absurd (omega arith)
drop-sum (x ∷ xs) (y ∷ ys) same = refl

masked_lengths : (a b xs ys : List Bool) → length xs ≡ length ys → length (xor_front a xs) ≡ length (xor_front b ys)
masked_lengths a b xs ys same = length-xor_front a xs ∙ same ∙ sym (length-xor_front b ys)

divide_once-sum : (divisor xs ys : List Bool) → length xs ≡ length ys
    → divide_once divisor (xor_bits xs ys) ≡ xor_bits (divide_once divisor xs) (divide_once divisor ys)
unfolding divide_once
divide_once-sum d [] ys same = refl
divide_once-sum d (x ∷ xs) [] same = absurd (omega arith)
divide_once-sum d (true ∷ xs) (true ∷ ys) same =
    ap (drop 1) (xor_front-sum_both d (true ∷ xs) (true ∷ ys) same)
    ∙ drop-sum (xor_front d (true ∷ xs)) (xor_front d (true ∷ ys)) (masked_lengths d d (true ∷ xs) (true ∷ ys) same)
divide_once-sum d (true ∷ xs) (false ∷ ys) same =
    ap (drop 1) (xor_front-sum_l d (true ∷ xs) (false ∷ ys) same)
    ∙ drop-sum (xor_front d (true ∷ xs)) (false ∷ ys) (length-xor_front d (true ∷ xs) ∙ same)
divide_once-sum d (false ∷ xs) (true ∷ ys) same =
    ap (drop 1) (xor_front-sum_r d (false ∷ xs) (true ∷ ys) same)
    ∙ drop-sum (false ∷ xs) (xor_front d (true ∷ ys)) (same ∙ sym (length-xor_front d (true ∷ ys)))
divide_once-sum d (false ∷ xs) (false ∷ ys) same = refl

length-divide_once : (divisor xs : List Bool) → length (divide_once divisor xs) ≡ length xs - 1
unfolding divide_once
length-divide_once d [] = refl
length-divide_once d (true ∷ xs) = length-drop 1 (xor_front d (true ∷ xs)) ∙ ap (λ (n : ℕ). n - 1)
    (length-xor_front d (true ∷ xs))
length-divide_once d (false ∷ xs) = length-drop 1 (false ∷ xs)

divide-sum : (divisor : List Bool) (n : ℕ) (xs ys : List Bool) → length xs ≡ length ys
    → divide divisor n (xor_bits xs ys) ≡ xor_bits (divide divisor n xs) (divide divisor n ys)
unfolding divide
divide-sum d zero xs ys same = refl
divide-sum d (suc n) xs ys same =
    ap (divide d n) (divide_once-sum d xs ys same)
    ∙ divide-sum d n (divide_once d xs) (divide_once d ys) (length-divide_once d xs ∙ ap (λ (k : ℕ). k - 1) same ∙ sym
    (length-divide_once d ys))

-- zeros before a message don't change its division
divide-zeros : (divisor : List Bool) (n : ℕ) (rest : List Bool) → divide divisor n (replicate n false ++ rest) ≡ rest
unfolding divide divide_once
divide-zeros d zero rest = refl
divide-zeros d (suc n) rest = divide-zeros d n rest

divide-more : (divisor : List Bool) (m n : ℕ) (bits : List Bool)
    → divide divisor (m + n) bits ≡ divide divisor n (divide divisor m bits)
unfolding divide
divide-more d zero n bits = let none : zero + n ≡ n = omega arith in ap (λ (k : ℕ). divide d k bits) none
divide-more d (suc m) n bits =
    let more : suc m + n ≡ suc (m + n) = omega arith in
    ap (λ (k : ℕ). divide d k bits) more ∙ divide-more d m n (divide_once d bits)

-- ---- the register after a message, from an empty register

-- a message of two parts, each with zeros in the other's place
message-parts : (front back after : List Bool) → front ++ (back ++ after)
    ≡ xor_bits (front ++ (replicate (length back) false ++ replicate (length after) false))
    (replicate (length front) false ++ (back ++ after))
message-parts front back after =
    let zeros = replicate (length back) false ++ replicate (length after) false in
    let high : xor_bits front (replicate (length front) false) ≡ front = xor_bits-zeros_r front (length front) refl in
    let both : length back + length after ≡ length (back ++ after) = sym (length-append back after) in
    let low : xor_bits zeros (back ++ after) ≡ back ++ after =
    ap (λ (t : List Bool). xor_bits t (back ++ after)) (sym (zeros-append (length back) (length after)) ∙ ap
    (λ (n : ℕ). replicate n false) both)
    ∙ xor_bits-zeros_l (back ++ after) (length (back ++ after)) refl in
    sym (xor_bits-append front zeros (replicate (length front) false) (back ++ after)
    (sym (length-replicate (length front) false))
    ∙ ap (λ (t : List Bool). t ++ xor_bits zeros (back ++ after)) high ∙ ap (λ (t : List Bool). front ++ t) low)

parts_lengths : (front back after : List Bool) → length (front ++
    (replicate (length back) false ++ replicate (length after) false))
    ≡ length (replicate (length front) false ++ (back ++ after))
parts_lengths front back after =
    omega (
      arith,
      length-append front (replicate (length back) false ++ replicate (length after) false),
      length-append (replicate (length back) false) (replicate (length after) false),
      length-append (replicate (length front) false) (back ++ after),
      length-append back after,
      length-replicate (length front) false,
      length-replicate (length back) false,
      length-replicate (length after) false,
    )

-- the rest of the message is divided after the front
divide-parts : (divisor front back after : List Bool) → divide divisor (length front) (front ++ (back ++ after))
    ≡ xor_bits (divide divisor (length front) (front ++
    (replicate (length back) false ++ replicate (length after) false))) (back ++ after)
divide-parts d front back after =
    let zeros = replicate (length back) false ++ replicate (length after) false in
    ap (divide d (length front)) (message-parts front back after)
    ∙ divide-sum d (length front) (front ++ zeros) (replicate (length front) false ++ (back ++ after))
    (parts_lengths front back after)
    ∙ ap (xor_bits (divide d (length front) (front ++ zeros))) (divide-zeros d (length front) (back ++ after))

pub left_by-append : (divisor : List Bool) (w : ℕ) (front back : List Bool)
    → left_by divisor w (front ++ back) ≡ xor_bits (left_by divisor w (front ++ replicate (length back) false))
    (left_by divisor w back)
left_by-append d w front back =
    let after = replicate w false in
    let zeros = replicate (length back) false in
    let wide : replicate (length after) false ≡ after = ap (λ (n : ℕ). replicate n false) (length-replicate w false) in
    let sum : front ++ (back ++ after) ≡ xor_bits (front ++ (zeros ++ after))
    (replicate (length front) false ++ (back ++ after)) =
    message-parts front back after ∙ ap (λ (t : List Bool). xor_bits (front ++ (zeros ++ t))
    (replicate (length front) false ++ (back ++ after))) wide in
    let same : length (front ++ (zeros ++ after)) ≡ length (replicate (length front) false ++ (back ++ after)) =
    ap (λ (t : List Bool). length (front ++ (zeros ++ t))) (sym wide) ∙ parts_lengths front back after in
    let long : length (front ++ back) ≡ length front + length back = length-append front back in
    let low : divide d (length (front ++ back)) (replicate (length front) false ++ (back ++ after)) ≡ left_by d w back =
    ap (λ (n : ℕ). divide d n (replicate (length front) false ++ (back ++ after))) long
    ∙ divide-more d (length front) (length back) (replicate (length front) false ++ (back ++ after))
    ∙ ap (divide d (length back)) (divide-zeros d (length front) (back ++ after)) in
    let steps : length (front ++ back) ≡ length (front ++ zeros) =
    long ∙ ap (λ (n : ℕ). length front + n) (sym (length-replicate (length back) false)) ∙ sym
    (length-append front zeros) in
    let high : divide d (length (front ++ back)) (front ++ (zeros ++ after)) ≡ left_by d w (front ++ zeros) =
    ap (λ (n : ℕ). divide d n (front ++ (zeros ++ after))) steps ∙ ap (divide d (length (front ++ zeros)))
    (sym (append_assoc front zeros after)) in
    ap (divide d (length (front ++ back))) (append_assoc front back after ∙ sum)
    ∙ divide-sum d (length (front ++ back)) (front ++ (zeros ++ after))
    (replicate (length front) false ++ (back ++ after)) same
    ∙ ap (λ (t : List Bool). xor_bits t (divide d (length (front ++ back))
    (replicate (length front) false ++ (back ++ after)))) high
    ∙ ap (xor_bits (left_by d w (front ++ zeros))) low

-- zeros before a message don't change the register
pub left_by-zeros : (divisor : List Bool) (w n : ℕ) (message : List Bool)
    → left_by divisor w (replicate n false ++ message) ≡ left_by divisor w message
left_by-zeros d w n message =
    let after = replicate w false in
    let zeros = replicate n false in
    let long : length (zeros ++ message) ≡ n + length message =
    length-append zeros message ∙ ap (λ (k : ℕ). k + length message) (length-replicate n false) in
    ap (divide d (length (zeros ++ message))) (append_assoc zeros message after)
    ∙ ap (λ (k : ℕ). divide d k (zeros ++ (message ++ after))) long
    ∙ divide-more d n (length message) (zeros ++ (message ++ after))
    ∙ ap (divide d (length message)) (divide-zeros d n (message ++ after))

-- ---- a register that isn't empty

stepped_all-divided : (p register bits : List Bool) → length p ≡ length register → 0 < length register
    → stepped_all p register bits ≡ divided (true ∷ p) register bits
stepped_all-divided p register bits same some =
    sym (ap (divided (true ∷ p) register) (sym (append-nil bits)) ∙ divided-bits p register bits [] same some
    ∙ divided-none (true ∷ p) (stepped_all p register bits))

-- the register is xored onto the front of a message that is at least as long
pub stepped_all-long : (p register bits : List Bool) → length p ≡ length register → 0 < length register
    → length register ≤ length bits
    → stepped_all p register bits ≡ left_by (true ∷ p) (length register) (xor_front register bits)
stepped_all-long p register bits same some fits =
    let after = replicate (length register) false in
    stepped_all-divided p register bits same some
    ∙ ap (divide (true ∷ p) (length bits)) (xor_front-append register bits after fits)
    ∙ ap (λ (n : ℕ). divide (true ∷ p) n (xor_front register bits ++ after)) (sym (length-xor_front register bits))

xor_front-zeros : (mask after : List Bool) (n : ℕ) → length mask ≡ n
    → xor_front mask (replicate n false ++ after) ≡ mask ++ after
unfolding xor_front
xor_front-zeros [] after zero same = refl
xor_front-zeros [] after (suc n) same = absurd (omega arith)
xor_front-zeros (m ∷ mask) after zero same = absurd (omega arith)
xor_front-zeros (m ∷ mask) after (suc n) same = rw (differ-false_r m, xor_front-zeros mask after n (omega arith)) refl

xor_front-parts : (high low bits after : List Bool) → length high ≡ length bits
    → xor_front (high ++ low) (bits ++ (replicate (length low) false ++ after)) ≡ xor_bits high bits ++ (low ++ after)
unfolding xor_front
xor_front-parts [] low [] after same = xor_front-zeros low after (length low) refl
xor_front-parts [] low (b ∷ bits) after same = absurd (omega arith)
xor_front-parts (h ∷ high) low [] after same = absurd (omega arith)
xor_front-parts (h ∷ high) low (b ∷ bits) after same = ap (λ (t : List Bool). differ h b ∷ t)
    (xor_front-parts high low bits after (omega arith))

length-xor_bits : (a b : List Bool) → length a ≡ length b → length (xor_bits a b) ≡ length b
length-xor_bits [] [] same = refl
length-xor_bits [] (y ∷ b) same = absurd (omega arith)
length-xor_bits (x ∷ a) [] same = absurd (omega arith)
length-xor_bits (x ∷ a) (y ∷ b) same = omega (arith, length-xor_bits a b (omega arith))

-- A shorter message meets the high bits of the register, and the low ones move up.
pub stepped_all-short : (p high low bits : List Bool) → length p ≡ length (high ++ low) → 0 < length (high ++ low)
    → length high ≡ length bits
    → stepped_all p (high ++ low) bits ≡ xor_bits (left_by (true ∷ p) (length (high ++ low)) (xor_bits high bits))
    (low ++ replicate (length bits) false)
stepped_all-short p high low bits same some fits =
    let d = true ∷ p in
    let after = replicate (length bits) false in
    let met = xor_bits high bits in
    let size : length met ≡ length bits = length-xor_bits high bits fits in
    let wide : length (high ++ low) ≡ length low + length bits = length-append high low ∙ omega (arith, fits) in
    let zeros : replicate (length (high ++ low)) false ≡ replicate (length low) false ++ after =
    ap (λ (n : ℕ). replicate n false) wide ∙ zeros-append (length low) (length bits) in
    let same_after : replicate (length after) false ≡ after =
    ap (λ (n : ℕ). replicate n false) (length-replicate (length bits) false) in
    stepped_all-divided p (high ++ low) bits same some
    ∙ ap (λ (t : List Bool). divide d (length bits) (xor_front (high ++ low) (bits ++ t))) zeros
    ∙ ap (divide d (length bits)) (xor_front-parts high low bits after fits)
    ∙ ap (λ (n : ℕ). divide d n (met ++ (low ++ after))) (sym size)
    ∙ divide-parts d met low after
    ∙ ap (λ (t : List Bool). xor_bits (divide d (length met) (met ++ (replicate (length low) false ++ t)))
    (low ++ after)) same_after
    ∙ ap (λ (t : List Bool). xor_bits (divide d (length met) (met ++ t)) (low ++ after)) (sym zeros)
