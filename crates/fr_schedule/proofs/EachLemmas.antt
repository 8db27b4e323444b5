-- Values that are read one by one into a list.
use Rattle.std.proofs.Common.{◌≡◌, ℕ, ◌+◌, List, [], ◌∷◌, ◌++◌, Result, Ok, Err, refl, sym, ap}
use Rattle.std.proofs.lemmas.List.{append_assoc, append-nil}
use Rattle.fr_schedule.specs.declared.error.ConfigError.{ConfigError}
use Rattle.fr_schedule.specs.Files.{◌>>=◌, each_of}

module _ {X A B : Type 0} (read : ℕ → X → Result A ConfigError) (made : List A → B) where
  -- the result of the values that were read and the remaining ones, which are numbered from this number up
  abbrev pub with_rest : ℕ → List A → List X → Result B ConfigError
  with_rest n so_far left = each_of read n left >>= (λ more. Ok (made (so_far ++ more)))

  pub rest_refused : (n : ℕ) (so_far : List A) (x : X) (left : List X) (e : ConfigError) → read n x ≡ Err e
      → with_rest n so_far (x ∷ left) ≡ Err e
  unfolding each_of
  rest_refused n so_far x left e is = rw is refl

  one_more : (so_far : List A) (one : A) (more : Result (List A) ConfigError)
      → ((more >>= (λ rest. Ok (one ∷ rest))) >>= (λ all. Ok (made (so_far ++ all)))) ≡
      (more >>= (λ rest. Ok (made ((so_far ++ one ∷ []) ++ rest))))
  one_more so_far one (Err e) = refl
  one_more so_far one (Ok rest) =
      ap (λ (all : List A). let r : Result B ConfigError = Ok (made all) in r)
      (sym (append_assoc so_far (one ∷ []) rest))

  pub rest_taken : (n : ℕ) (so_far : List A) (x : X) (left : List X) (one : A) → read n x ≡ Ok one
      → with_rest n so_far (x ∷ left) ≡ with_rest (n + 1) (so_far ++ one ∷ []) left
  unfolding each_of
  rest_taken n so_far x left one is = rw is (one_more so_far one (each_of read (n + 1) left))

  pub rest_end : (n : ℕ) (so_far : List A) → with_rest n so_far [] ≡ Ok (made so_far)
  unfolding each_of
  rest_end n so_far = ap (λ (all : List A). let r : Result B ConfigError = Ok (made all) in r) (append-nil so_far)
