-- A loop over a list, and the remaining items.
use Rattle.std.proofs.Common.{◌≡◌, ℕ, ◌+◌, ◌<◌, List, ◌∷◌, length, get_or, drop, sym, ap, ◌∙◌}
use Rattle.std.proofs.lemmas.List.{at_drop_more}

-- the item that the loop has reached is the first of the remaining ones
pub at_item : {X Y : Type 0} (f : List X → Y) (xs : List X) (i : ℕ) (x : X) → i < length xs → x ≡ get_or xs i x
    → f (drop i xs) ≡ f (x ∷ drop (i + 1) xs)
at_item f xs i x within is = at_drop_more f xs i x within ∙ ap (λ y. f (y ∷ drop (i + 1) xs)) (sym is)
