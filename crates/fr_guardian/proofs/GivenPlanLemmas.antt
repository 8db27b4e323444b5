-- The plans of posts, one after another.
use Rattle.std.proofs.Common.{◌≡◌, ℕ, suc, ◌+◌, List, [], ◌∷◌, ◌++◌, take, map, Some, refl, sym, ap, ◌∙◌, arith}
use Rattle.std.proofs.Common.{◌<◌, length, get_or, slice_get}
use Rattle.std.proofs.lemmas.Option.{slice_get_within, get_or_from_slice_get, slice_get-get_or}
use Rattle.std.proofs.Math.Seq.{take-suc}
use Rattle.fr_guardian.specs.declared.guardian.Post.{Post}
use Rattle.fr_slots.proofs.PlaceLemmas.{map-get}
use Rattle.fr_slots.specs.Plans.{Plan}

take_more : {X : Type 0} (xs : List X) (i : ℕ) (x : X) → slice_get xs i ≡ Some x → take (i + 1) xs ≡ take i xs ++ x ∷ []
take_more xs i x at =
    let next : i + 1 ≡ suc i = omega arith in
    ap (λ (n : ℕ). take n xs) next ∙ take-suc xs i x (slice_get_within xs i x at)
    ∙ ap (λ (y : _). take i xs ++ y ∷ []) (get_or_from_slice_get xs i x x at)

abbrev pub plans_in : List Post → List Plan
plans_in posts = map (λ (post : Post). post.plan) posts

-- one more plan is the same
pub plans_more : (posts : List Post) (plans : List Plan) (i : ℕ) (post : Post) (plan : Plan)
    → post ≡ get_or posts i post → plan ≡ get_or plans i plan → i < length posts → i < length plans → post.plan ≡ plan
    → take i (plans_in posts) ≡ take i plans → take (i + 1) (plans_in posts) ≡ take (i + 1) plans
plans_more posts plans i post plan at there within inside same before =
    take_more (plans_in posts) i post.plan (map-get (λ (x : Post). x.plan) posts i post (here posts post at within))
    ∙ ap (λ (l : List Plan). l ++ post.plan ∷ []) before ∙ ap (λ (p : Plan). take i plans ++ p ∷ []) same
    ∙ sym (take_more plans i plan (here plans plan there inside))
  where
    here : {X : Type 0} (xs : List X) (x : X) → x ≡ get_or xs i x → i < length xs → slice_get xs i ≡ Some x
    here xs x is below = slice_get-get_or xs i x below ∙ ap Some (sym is)
