-- Lists of task handles, each at the place of its task's number.
use Rattle.std.proofs.Common.{◌≡◌, ℕ, ◌+◌, ◌<◌, ◌++◌, ◌∷◌, List, [], length, Some, ap, ◌∙◌, sym, subst, arith}
use Rattle.std.proofs.Common.{below_more, length-append, get_or}
use Rattle.std.specs.List.{All}
use Rattle.std.specs.Prelude.{slice_get}
use Rattle.std.proofs.lemmas.List.{get_or_push}
use Rattle.std.proofs.lemmas.Option.{slice_get_within, get_or_from_slice_get}
use Rattle.std.proofs.Math.ListN.{get_or-append}
use Rattle.std.proofs.Math.Seq.{get_or-append_seam}

-- each element has the number of its place
abbrev pub AreNumbered : {X : Type 0} → (X → ℕ) → List X → Type 0
AreNumbered {X} f xs = (k : ℕ) (x : X) → slice_get xs k ≡ Some x → f x ≡ k

pub numbered_push : {X : Type 0} (f : X → ℕ) (xs : List X) (x : X) (n : ℕ) → length xs ≡ n → f x ≡ n
    → ((k : ℕ) (d : X) → k < n → f (get_or xs k d) ≡ k)
    → (k : ℕ) (d : X) → k < n + 1 → f (get_or (xs ++ x ∷ []) k d) ≡ k
numbered_push {X} f xs x n len at all k d =
    let P : ℕ → Type 0 = λ j. f (get_or (xs ++ x ∷ []) j d) ≡ j in
    below_more P n
    (λ j h. let i : j < length xs = omega arith in ap f (get_or-append xs (x ∷ []) d j i) ∙ all j d h)
    (ap f (get_or_push xs x d n len) ∙ at)
    k

pub all_last : {X : Type 0} (P : X → Type 0) (xs ys : List X) (x : X) → All P ys → ys ≡ xs ++ x ∷ [] → P x
all_last {X} P xs ys x all e =
    let Q : List X → Type 0 = λ zs. All P zs in
    let whole = subst Q e all in
    subst P (get_or-append_seam xs x [] x) (whole (length xs) x (omega (arith, length-append xs (x ∷ []))))

-- the same for an element that is found at a place
pub numbered_found : {X : Type 0} (f : X → ℕ) (xs : List X) → ((k : ℕ) (d : X) → k < length xs → f (get_or xs k d) ≡ k)
    → AreNumbered f xs
numbered_found f xs all k x at = ap f (sym (get_or_from_slice_get xs k x x at)) ∙ all k x (slice_get_within xs k x at)
