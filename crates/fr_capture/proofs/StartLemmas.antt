-- The start of a window, by the layout of the cycle.
use Rattle.std.proofs.Common.{◌≡◌, ℕ, ◌<◌, ◌≤◌, Option, Some, None, refl, sym, ap, subst, ◌∙◌, arith, inl, inr}
use Rattle.std.proofs.lemmas.Bool.{cases_lt}
use Rattle.std.proofs.Math.Nat.{mul-le-mul_left}
use Rattle.std.proofs.Common.{◌+◌, ◌*◌, ◌^◌}
use Rattle.std.specs.Prelude.{IfSome, is_some, unwrap_or}
use Rattle.fr_slots.specs.Parameters.{Parameters, IsParameters}
use Rattle.fr_timing.specs.declared.place.Place.{Place}
use Rattle.fr_timing.specs.Division.{start_at, place_at}
use Rattle.fr_timing.specs.Layout.{IsAt}
use Rattle.fr_timing.proofs.LayoutLemmas.{started_found, started_only, located_only, located_none}

-- a start that is computed is the one of the definition
pub start_same : (p : Parameters) (x : Place) (answer : Option ℕ) → IfSome answer (λ m. IsAt p m x)
    → ((m : ℕ) → IsAt p m x → answer ≡ Some m) → answer ≡ start_at p x
start_same p x (Some m) found only = sym (started_only p x (start_at p x) refl m found)
start_same p x None found only = none (start_at p x) refl
  where
    none : (o : Option ℕ) → start_at p x ≡ o → None ≡ start_at p x
    none None is = sym is
    none (Some m) is = only m (subst (λ (o : Option ℕ). IfSome o (λ n. IsAt p n x)) is
        (started_found p x (start_at p x) refl)) ∙ sym is

-- a place lies in the cycle
pub start_below : (p : Parameters) → IsParameters p → (x : Place) (answer : Option ℕ) → IfSome answer (λ m. IsAt p m x)
    → unwrap_or answer 0 < p.cycle_mt
start_below p lawful x None found = omega (arith, lawful.cycle_mt_fit.from_least)
start_below p lawful x (Some m) found = elim (cases_lt m p.cycle_mt)
    [ inl below ↦ below | inr behind ↦ absurd (clash behind) ]
  where
    clash : p.cycle_mt ≤ m → ⊥
    clash behind = let none = (located_none p lawful m (place_at p m) refl).1 behind in let some =
        located_only p m (place_at p m) refl x found in let e = sym none ∙ ap is_some some in cc

-- a time after at most this many rounds is below 2^32 seconds
pub few_time : (rounds length place : ℕ) → rounds ≤ 1000000 → length ≤ 1280000 → place < 2 ^ 32
    → rounds * length + place < 2 ^ 32 * 1000000
few_time rounds length place few short fits =
    let more : rounds * length ≤ rounds * 1280000 = mul-le-mul_left rounds short in
    omega (arith, more)
