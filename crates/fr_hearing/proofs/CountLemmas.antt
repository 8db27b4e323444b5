-- Cycle counts modulo 64, and the frames by which a cycle is opened.
use Rattle.std.proofs.Common.{◌≡◌, ℕ, ◌+◌, ◌-◌, ◌%◌, ◌<◌, Bool, true, false, cond, refl, ap, arith}
use Rattle.std.proofs.lemmas.Bool.{cond-true, eq-eqb, ne_eqb, lt-ltb, and_from, not_from_false, or_left}
use Rattle.std.specs.Prelude.{Option, Some, None, nat_le, nat_lt, ◌==◌, not, ◌&&◌, ◌||◌}
use Rattle.fr_frame.specs.Fields.{Fields}
use Rattle.fr_judging.specs.Distances.{steps_of}
use Rattle.fr_judging.specs.Judging.{next_of}
use Rattle.fr_judging.specs.Lanes.{ahead_of, is_near, is_next, opens_by, opens}

steps_one : (c x : ℕ) → c < 64 → x ≡ (c + 1) % 64 → (x + 63 - c) % 64 ≡ 0
steps_one c x lt is = omega arith

-- the next count is a step away
pub one_step : (c x : ℕ) → c < 64 → x ≡ (c + 1) % 64 → steps_of c x ≡ 1
one_step c x lt is = ap (λ (n : ℕ). n + 1) (steps_one c x lt is)

pub ahead_one : (c x : ℕ) → c < 64 → x ≡ (c + 1) % 64 → ahead_of c x ≡ 1
ahead_one c x lt is = omega arith

-- the next count is another one
pub not_same : (c x : ℕ) → c < 64 → x ≡ (c + 1) % 64 → c ≡ x → ⊥
not_same c x lt is e = omega arith

-- and so is the one after it
not_back : (c x y : ℕ) → c < 64 → x ≡ (c + 1) % 64 → y ≡ (x + 1) % 64 → y ≡ c → ⊥
not_back c x y lt is next e = omega arith

pub next_fits : (c x : ℕ) → x ≡ (c + 1) % 64 → x < 64
next_fits c x is = omega arith

near_next : (x y : ℕ) → x < 64 → y ≡ (x + 1) % 64 → is_near x y ≡ true
near_next x y lt is = ap (λ (n : ℕ). nat_le 1 n && nat_le n 8) (ahead_one x y lt is)

is_next_one : (x y : ℕ) → x < 64 → y ≡ (x + 1) % 64 → is_next x y ≡ true
is_next_one x y lt is = eq-eqb (ahead_of x y) 1 (ahead_one x y lt is)

-- a later frame of the cycle confirms the first one
pub opens_same : (c : Option ℕ) (f g : Fields) → g.cycle ≡ f.cycle → f.id < g.id
    → opens c (next_of f) (Some (next_of g)) ≡ true
opens_same c f g same later =
    cond-true (g.cycle == f.cycle && nat_lt f.id g.id) true (opens_by c f.cycle g.cycle)
    (and_from (g.cycle == f.cycle) (nat_lt f.id g.id) (eq-eqb g.cycle f.cycle same) (lt-ltb f.id g.id later))

either_true : (b o : Bool) → o ≡ true → cond b true o ≡ true
either_true true o e = refl
either_true false o e = e

-- the first frame of the next cycle confirms it, too
pub opens_first : (f g : Fields) → f.cycle < 64 → g.cycle ≡ (f.cycle + 1) % 64
    → opens None (next_of f) (Some (next_of g)) ≡ true
opens_first f g fits next =
    either_true (g.cycle == f.cycle && nat_lt f.id g.id) (opens_by None f.cycle g.cycle)
    (near_next f.cycle g.cycle fits next)

pub opens_next : (c : ℕ) (f g : Fields) → c < 64 → f.cycle ≡ (c + 1) % 64 → g.cycle ≡ (f.cycle + 1) % 64
    → opens (Some c) (next_of f) (Some (next_of g)) ≡ true
opens_next c f g fits is next =
    let x = f.cycle in
    let y = g.cycle in
    either_true (y == x && nat_lt f.id g.id) (opens_by (Some c) x y)
    (or_left (is_next x y && not (y == c))
    (is_near c x && not (y == c) && (not (is_next c y) || is_next c x) && not (y == x))
    (and_from (is_next x y) (not (y == c)) (is_next_one x y (next_fits c x is) next)
    (not_from_false (y == c) (ne_eqb y c (not_back c x y fits is next)))))
