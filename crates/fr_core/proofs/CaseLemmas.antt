-- Small cases on tests and options.
use Rattle.std.proofs.Common.{◌≡◌, Bool, true, false, cond, ◌&&◌, Option, Some, None, refl, sym, ◌∙◌}

pub both : (p q : Bool) → p ≡ true → q ≡ true → (p && q) ≡ true
both true q e f = f
both false q e f = e

pub both_first : (p q : Bool) → (p && q) ≡ true → p ≡ true
both_first true q e = refl
both_first false q e = e

pub both_rest : (p q : Bool) → (p && q) ≡ true → q ≡ true
both_rest true q e = e
both_rest false q e = absurd (let none : ⊥ = cc in none)

-- a test doesn't both pass and fail
pub differ : {X : Type 0} {b : Bool} → b ≡ true → b ≡ false → X
differ p q = let e : true ≡ false = sym p ∙ q in absurd (let none : ⊥ = cc in none)

-- the value that a test keeps
pub kept : {X : Type 0} (b : Bool) (o : Option X) (y : X) → cond b o None ≡ Some y → o ≡ Some y
kept true o y e = e
kept false o y e = absurd (let none : ⊥ = cc in none)

pub kept_if : {X : Type 0} (b : Bool) (o : Option X) (y : X) → cond b o None ≡ Some y → b ≡ true
kept_if true o y e = refl
kept_if false o y e = absurd (let none : ⊥ = cc in none)
