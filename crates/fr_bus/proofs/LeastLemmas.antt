-- The first minislot at which a channel opens a slot is the lesser of two.
use Rattle.std.proofs.Common.{◌≡◌, ℕ, zero, suc, ◌+◌, ◌<◌, ◌≤◌, Bool, true, false, cond, List, Some, None, refl, ◌∙◌}
use Rattle.std.proofs.Common.{arith, inl, inr}
use Rattle.std.proofs.lemmas.Bool.{leb-true, leb-false, eq-eqb, ne_eqb}
use Rattle.std.proofs.lemmas.Bool.Decides.{eqb_tells}
use Rattle.std.specs.Prelude.{◌&&◌, ◌||◌, ◌==◌, nat_le, min}
use Rattle.std.specs.List.{find, range_with_len}
use Rattle.fr_bus.specs.Windows.{least_of}

find_later : (test : ℕ → Bool) (x : ℕ) (xs : List ℕ) → test x ≡ false
    → cond (test x) (Some x) (find test xs) ≡ find test xs
find_later test x xs e = rw e refl

pub find_none : (test : ℕ → Bool) (start n : ℕ) → ((m : ℕ) → start ≤ m → m < start + n → test m ≡ false)
    → find test (range_with_len start n) ≡ None
find_none test start zero fails = refl
find_none test start (suc n) fails =
    find_later test start (range_with_len (start + 1) n) (fails start (omega arith) (omega arith))
    ∙ find_none test (start + 1) n (λ m least below. fails m (omega (arith, least)) (omega (arith, below)))

found_here : (test : ℕ → Bool) (start x : ℕ) (xs : List ℕ) → start ≡ x → test x ≡ true
    → cond (test start) (Some start) (find test xs) ≡ Some x
found_here test start x xs same passes = rw (same, passes) refl

pub find_at : (test : ℕ → Bool) (start n x : ℕ) → start ≤ x → x < start + n → test x ≡ true
    → ((m : ℕ) → start ≤ m → m < x → test m ≡ false)
    → find test (range_with_len start n) ≡ Some x
find_at test start zero x least below passes fails = absurd (let none : ⊥ = omega (arith, least, below) in none)
find_at test start (suc n) x least below passes fails = elim (eqb_tells start x) [
  | inl same ↦ found_here test start x (range_with_len (start + 1) n) same.1 passes
  | inr other ↦
      find_later test start (range_with_len (start + 1) n) (fails start (omega arith) (omega (arith, least, other.1)))
      ∙ find_at test (start + 1) n x (omega (arith, least, other.1)) (omega (arith, below)) passes
      (λ m from before. fails m (omega (arith, from)) before)
]

-- one number, if there is one
single_none : (x m : ℕ) → m < x → (x == m) ≡ false
single_none x m before = ne_eqb x m (λ same. let none : ⊥ = omega (arith, before, same) in none)

or_false : (p q : Bool) → p ≡ false → q ≡ false → (p || q) ≡ false
or_false p q e f = rw (e, f) refl

or_left : (p q : Bool) → p ≡ true → (p || q) ≡ true
or_left p q e = rw e refl

or_right : (p q : Bool) → q ≡ true → (p || q) ≡ true
or_right true q e = refl
or_right false q e = e

and_false : (r : Bool) (x m : ℕ) → m < x → (r && x == m) ≡ false
and_false true x m before = single_none x m before
and_false false x m before = refl

-- two lanes, each of which opens its next slot at a minislot from 1 to n, or opens none
pub find_least : (a b : Bool) (x y n : ℕ) → (a ≡ true → (1 ≤ x) × (x ≤ n)) → (b ≡ true → (1 ≤ y) × (y ≤ n))
    → find (λ m. (a && x == m) || (b && y == m)) (range_with_len 1 n) ≡ least_of (cond a (Some x) None)
    (cond b (Some y) None)
find_least false false x y n within_a within_b = find_none (λ m. (false && x == m) || (false && y == m)) 1 n
    (λ m from below. refl)
find_least true false x y n within_a within_b =
    let w = within_a refl in
    find_at (λ m. (true && x == m) || (false && y == m)) 1 n x w.0 (omega (arith, w.1))
    (or_left (x == x) false (eq-eqb x x refl))
    (λ m from before. or_false (x == m) false (single_none x m before) refl)
find_least false true x y n within_a within_b =
    let w = within_b refl in
    find_at (λ m. (false && x == m) || (true && y == m)) 1 n y w.0 (omega (arith, w.1)) (eq-eqb y y refl)
    (λ m from before. single_none y m before)
find_least true true x y n within_a within_b =
    let v = within_a refl in
    let w = within_b refl in
    find_at (λ m. (true && x == m) || (true && y == m)) 1 n (min x y) (omega (arith, v.0, w.0))
    (omega (arith, v.1, w.1)) (at_least x y (nat_le x y) refl)
    (λ m from before. or_false (x == m) (y == m) (single_none x m (omega (arith, before)))
    (single_none y m (omega (arith, before))))
  where
    at_least : (x y : ℕ) (b : Bool) → nat_le x y ≡ b → (x == min x y || y == min x y) ≡ true
    at_least x y true e = or_left (x == min x y) (y == min x y) (eq-eqb x (min x y) (omega (arith, leb-true x y e)))
    at_least x y false e = or_right (x == min x y) (y == min x y) (eq-eqb y (min x y) (omega (arith, leb-false x y e)))
