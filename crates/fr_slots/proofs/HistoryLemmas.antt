-- One more event at the end of a history.
use Rattle.std.proofs.Common.{◌≡◌, ℕ, ◌+◌, Bool, cond, List, [], ◌∷◌, ◌++◌, Option, Some, None, refl, sym, ap, subst}
use Rattle.std.proofs.Common.{◌∙◌, arith}
use Rattle.std.specs.Prelude.{IfSome}
use Rattle.std.specs.Option.{option_or}
use Rattle.std.proofs.lemmas.List.{append_assoc, append-nil}
use Rattle.fr_slots.specs.History.{AllAfter, last_after, each_after, count_after}

option_or-assoc : {A : Type 0} (x y z : Option A) → option_or x (option_or y z) ≡ option_or (option_or x y) z
option_or-assoc None y z = refl
option_or-assoc (Some x) y z = refl

option_or-none : {A : Type 0} (x : Option A) → option_or x None ≡ x
option_or-none None = refl
option_or-none (Some x) = refl

module _ {X : Type 0} where
  last_after-snoc_from : {A : Type 0} (f : List X → X → Option A) (before xs : List X) (e : X)
      → last_after f before (xs ++ e ∷ []) ≡ option_or (f (before ++ xs) e) (last_after f before xs)
  unfolding last_after
  last_after-snoc_from f before [] e = rw append-nil (sym (option_or-none (f before e)))
  last_after-snoc_from f before (x ∷ xs) e =
      ap (λ o. option_or o (f before x)) (last_after-snoc_from f (before ++ x ∷ []) xs e ∙ ap
      (λ (b : List X). option_or (f b e) (last_after f (before ++ x ∷ []) xs)) (append_assoc before (x ∷ []) xs))
      ∙ sym (option_or-assoc (f (before ++ x ∷ xs) e) (last_after f (before ++ x ∷ []) xs) (f before x))

  pub last_after-snoc : {A : Type 0} (f : List X → X → Option A) (xs : List X) (e : X)
      → last_after f [] (xs ++ e ∷ []) ≡ option_or (f xs e) (last_after f [] xs)
  last_after-snoc f xs e = last_after-snoc_from f [] xs e

  each_after-snoc_from : {A : Type 0} (f : List X → X → List A) (before xs : List X) (e : X)
      → each_after f before (xs ++ e ∷ []) ≡ each_after f before xs ++ f (before ++ xs) e
  unfolding each_after
  each_after-snoc_from f before [] e = append-nil (f before e) ∙ ap (λ (b : List X). f b e) (sym (append-nil before))
  each_after-snoc_from f before (x ∷ xs) e =
      ap (λ l. f before x ++ l) (each_after-snoc_from f (before ++ x ∷ []) xs e ∙ ap
      (λ (b : List X). each_after f (before ++ x ∷ []) xs ++ f b e) (append_assoc before (x ∷ []) xs))
      ∙ sym (append_assoc (f before x) (each_after f (before ++ x ∷ []) xs) (f (before ++ x ∷ xs) e))

  pub each_after-snoc : {A : Type 0} (f : List X → X → List A) (xs : List X) (e : X)
      → each_after f [] (xs ++ e ∷ []) ≡ each_after f [] xs ++ f xs e
  each_after-snoc f xs e = each_after-snoc_from f [] xs e

  count_after-snoc_from : (test : List X → X → Bool) (before xs : List X) (e : X)
      → count_after test before (xs ++ e ∷ []) ≡ count_after test before xs + cond (test (before ++ xs) e) 1 0
  unfolding count_after
  count_after-snoc_from test before [] e =
      let same : cond {A = ℕ} (test (before ++ []) e) 1 0 ≡ cond (test before e) 1 0 =
      ap (λ (b : List X). cond {A = ℕ} (test b e) 1 0) (append-nil before) in
      omega (arith, same)
  count_after-snoc_from test before (x ∷ xs) e =
      let same : cond {A = ℕ} (test ((before ++ x ∷ []) ++ xs) e) 1 0 ≡ cond (test (before ++ x ∷ xs) e) 1 0 =
      ap (λ (b : List X). cond {A = ℕ} (test b e) 1 0) (append_assoc before (x ∷ []) xs) in
      omega (arith, same, count_after-snoc_from test (before ++ x ∷ []) xs e)

  pub count_after-snoc : (test : List X → X → Bool) (xs : List X) (e : X)
      → count_after test [] (xs ++ e ∷ []) ≡ count_after test [] xs + cond (test xs e) 1 0
  count_after-snoc test xs e = count_after-snoc_from test [] xs e

  AllAfter-snoc_from : (P : List X → X → Type 0) (before xs : List X) (e : X) → AllAfter P before xs
      → P (before ++ xs) e → AllAfter P before (xs ++ e ∷ [])
  unfolding AllAfter
  AllAfter-snoc_from P before [] e all here = (subst (λ (b : List X). P b e) (append-nil before) here, tt)
  AllAfter-snoc_from P before (x ∷ xs) e all here = (
    all.0,
    AllAfter-snoc_from P (before ++ x ∷ []) xs e all.1
        (subst (λ (b : List X). P b e) (sym (append_assoc before (x ∷ []) xs)) here),
  )

  pub AllAfter-snoc : (P : List X → X → Type 0) (xs : List X) (e : X) → AllAfter P [] xs → P xs e
      → AllAfter P [] (xs ++ e ∷ [])
  AllAfter-snoc P xs e all here = AllAfter-snoc_from P [] xs e all here

  -- a property of the start that each step keeps holds at the end
  pub AllAfter-induction : (P : List X → X → Type 0) (Q : List X → Type 0) (before xs : List X) → Q before
      → ((sofar : List X) (e : X) → Q sofar → P sofar e → Q (sofar ++ e ∷ [])) → AllAfter P before xs → Q (before ++ xs)
  unfolding AllAfter
  AllAfter-induction P Q before [] start step all = subst Q (sym (append-nil before)) start
  AllAfter-induction P Q before (x ∷ xs) start step all =
      subst Q (append_assoc before (x ∷ []) xs) (AllAfter-induction P Q (before ++ x ∷ []) xs
      (step before x start all.0) step all.1)

pub IfSome-or : {A : Type 0} (P : A → Type 0) (x y : Option A) → IfSome x P → IfSome y P → IfSome (option_or x y) P
IfSome-or P None y p q = q
IfSome-or P (Some x) y p q = p
