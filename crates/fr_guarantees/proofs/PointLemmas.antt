-- Lists by their items.
use Rattle.std.proofs.Common.{◌≡◌, ℕ, zero, suc, ◌<◌, Bool, true, List, [], ◌∷◌, length, replicate, refl, arith}
use Rattle.std.specs.Prelude.{slice_index_or}
use Rattle.std.specs.List.{list_all}
use Rattle.fr_core.proofs.CaseLemmas.{both}

pub all_by : {X : Type 0} (test : X → Bool) (xs : List X) (d : X)
    → ((n : ℕ) → n < length xs → test (slice_index_or xs n d) ≡ true) → list_all test xs ≡ true
all_by test [] d each = refl
all_by test (x ∷ xs) d each =
    both (test x) (list_all test xs) (each 0 (omega arith)) (all_by test xs d (λ n within. each (suc n) (omega
    (arith, within))))

pub replicate_is : {X : Type 0} (many : ℕ) (x : X) (n : ℕ) → slice_index_or (replicate many x) n x ≡ x
replicate_is zero x n = refl
replicate_is (suc many) x zero = refl
replicate_is (suc many) x (suc n) = replicate_is many x n
