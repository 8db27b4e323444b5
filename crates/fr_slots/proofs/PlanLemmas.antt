-- One more line in a plan, and one more line read.
use Rattle.std.proofs.Common.{◌≡◌, ℕ, ◌+◌, ◌<◌, Bool, true, List, [], ◌∷◌, ◌++◌, length, get_or, take, subst, sym, ap}
use Rattle.std.proofs.Common.{◌∙◌}
use Rattle.std.proofs.lemmas.List.{take_more}
use Rattle.fr_slots.specs.Plans.{AllFit, Each}

pub AllFit-snoc : {X : Type 0} (fits : X → Bool) (xs : List X) (x : X) → AllFit fits xs → fits x ≡ true
    → AllFit fits (xs ++ x ∷ [])
AllFit-snoc fits [] x all here = (here, tt)
AllFit-snoc fits (y ∷ xs) x all here = (all.0, AllFit-snoc fits xs x all.1 here)

pub Each-snoc : {X : Type 0} (P : X → Type 0) (xs : List X) (x : X) → Each P xs → P x → Each P (xs ++ x ∷ [])
Each-snoc P [] x all here = (here, tt)
Each-snoc P (y ∷ xs) x all here = (all.0, Each-snoc P xs x all.1 here)

-- a loop that has read one line more
pub taken_more : {X : Type 0} (P : List X → Type 0) (xs : List X) (i : ℕ) (x : X) → i < length xs → x ≡ get_or xs i x
    → P (take i xs ++ x ∷ []) → P (take (i + 1) xs)
taken_more P xs i x within is more =
    subst P (sym (take_more xs i x within ∙ ap (λ y. take i xs ++ y ∷ []) (sym is))) more
