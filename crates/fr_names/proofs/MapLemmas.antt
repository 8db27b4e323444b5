-- A loop over values that keeps what it reads of each.
use Rattle.std.proofs.Common.{◌≡◌, ℕ, ◌+◌, ◌<◌, ◌≤◌, List, [], ◌∷◌, ◌++◌, length, get_or, map, take, sym, ap, ◌∙◌}
use Rattle.std.proofs.lemmas.List.{map-append, length-map, take_more, take_all}

module _ {X Y Z : Type 0} (f : Y → Z) (v : X → Y) (xs : List X) where
  pub mapped_more : (i : ℕ) (x : X) (done : List Z) → i < length xs → x ≡ get_or xs i x
      → done ≡ map f (map v (take i xs)) → done ++ f (v x) ∷ [] ≡ map f (map v (take (i + 1) xs))
  mapped_more i x done within is so_far =
      let more : take (i + 1) xs ≡ take i xs ++ x ∷ [] =
      take_more xs i x within ∙ ap (λ (y : X). take i xs ++ y ∷ []) (sym is) in
      ap (λ (d : List Z). d ++ f (v x) ∷ []) so_far
      ∙ sym (map-append f (map v (take i xs)) (v x ∷ []))
      ∙ ap (map f) (sym (map-append v (take i xs) (x ∷ [])))
      ∙ ap (λ (ys : List X). map f (map v ys)) (sym more)

  pub mapped_all : (i : ℕ) (done : List Z) → length xs ≤ i → done ≡ map f (map v (take i xs))
      → done ≡ map f (map v xs)
  mapped_all i done past so_far = so_far ∙ ap (λ (ys : List X). map f (map v ys)) (take_all i xs past)

  pub length-mapped : (done : List Z) → done ≡ map f (map v xs) → length done ≡ length xs
  length-mapped done is = ap length is ∙ length-map (map v xs) f ∙ length-map xs v
