-- The number of cycles after which ownership repeats (project-defined).
use Rattle.std.specs.Prelude.{ℕ, List, [], ◌∷◌, max}
use Rattle.fr_slots.specs.declared.plan.Own.{Own}

-- the greatest repetition of the ownership lines, or 1 if there are none
unfoldable pub period : List Own → ℕ
period [] = 1
period (own ∷ owned) = max own.cycles.repetition (period owned)
