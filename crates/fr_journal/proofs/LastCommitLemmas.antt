-- The last commit on a buffer: its place, and the last commit after one more entry.
use Rattle.std.proofs.Common.{◌≡◌, ℕ, zero, suc, ◌+◌, ◌≤◌, ◌<◌, Bool, true, false, cond, ◌||◌, List, [], ◌∷◌, ◌++◌}
use Rattle.std.proofs.Common.{drop, length, Option, Some, None, refl, sym, ap, subst, ◌∙◌, arith, length-append}
use Rattle.std.specs.Prelude.{IfSome, IsSomeAnd, slice_get}
use Rattle.std.specs.List.{list_any}
use Rattle.std.specs.Option.{option_or}
use Rattle.std.proofs.lemmas.List.{append_assoc}
use Rattle.fr_journal.specs.Forms.{Entry}
use Rattle.fr_journal.specs.declared.entry.Entry.TheVariants.{Commit}
use Rattle.fr_journal.specs.Fate.{is_commit_on, commit_on, last_commit}
use Rattle.fr_journal.specs.Offers.{payload_in, payload_of}
use Rattle.fr_slots.specs.History.{last_after}
use Rattle.fr_slots.proofs.HistoryLemmas.{last_after-snoc, IfSome-or}

-- ---- lists

pub or-false : (a c : Bool) → (a || c) ≡ false → (a ≡ false) × (c ≡ false)
or-false true c h = absurd cc
or-false false c h = (refl, h)

or_none : (b : Bool) → (b || false) ≡ b
or_none true = refl
or_none false = refl

pub slice_get-front : {X : Type 0} (xs ys : List X) (n : ℕ) → n < length xs → slice_get (xs ++ ys) n ≡ slice_get xs n
slice_get-front [] ys n lt = absurd (omega (arith, lt))
slice_get-front (x ∷ xs) ys zero lt = refl
slice_get-front (x ∷ xs) ys (suc n) lt = slice_get-front xs ys n (omega (arith, lt))

-- the element after a front
pub slice_get-next : {X : Type 0} (front : List X) (x : X) (rest : List X)
    → slice_get (front ++ x ∷ rest) (length front) ≡ Some x
slice_get-next [] x rest = refl
slice_get-next (y ∷ front) x rest = slice_get-next front x rest

-- the rest after a front and one element
pub drop-next : {X : Type 0} (front : List X) (x : X) (rest : List X)
    → drop (length front + 1) (front ++ x ∷ rest) ≡ rest
drop-next {X = X} front x rest =
    let one : length front + 1 ≡ suc (length front) = omega arith in
    ap (λ (n : ℕ). drop n (front ++ x ∷ rest)) one ∙ behind_front front
  where
    behind_front : (ys : List X) → drop (suc (length ys)) (ys ++ x ∷ rest) ≡ rest
    behind_front [] = refl
    behind_front (y ∷ ys) = behind_front ys

-- elements dropped only from a front
pub drop-front : {X : Type 0} (xs ys : List X) (n : ℕ) → n ≤ length xs → drop n (xs ++ ys) ≡ drop n xs ++ ys
drop-front xs ys zero le = refl
drop-front [] ys (suc n) le = absurd (omega (arith, le))
drop-front (x ∷ xs) ys (suc n) le = drop-front xs ys n (omega (arith, le))

within : {X : Type 0} (P : X → Type 0) (xs : List X) (n : ℕ) → IsSomeAnd (slice_get xs n) P → n < length xs
within P [] n h = absurd h
within P (x ∷ xs) zero h = omega arith
within P (x ∷ xs) (suc n) h = omega (arith, within P xs n h)

-- ---- the existence of a commit

further : (o p : Option ℕ) (m n : ℕ) → n ≤ m → IsSomeAnd o (λ k. m ≤ k) → IsSomeAnd (option_or o p) (λ k. n ≤ k)
further None p m n le h = absurd h
further (Some k) p m n le h = omega (arith, le, h)

module _ (buffer : ℕ) where
  pub last-none : (before xs : List Entry) → list_any (is_commit_on buffer) xs ≡ false
      → last_after (commit_on buffer) before xs ≡ None
  unfolding last_after
  last-none before [] h = refl
  last-none before (x ∷ xs) h =
      let parts : (is_commit_on buffer x ≡ false) × (list_any (is_commit_on buffer) xs ≡ false) =
      or-false (is_commit_on buffer x) (list_any (is_commit_on buffer) xs) h in
      ap (λ (o : Option ℕ). option_or o (commit_on buffer before x)) (last-none (before ++ x ∷ []) xs parts.1)
      ∙ ap (λ (b : Bool). cond b (Some (length before)) None) parts.0

  pub last-here : (before : List Entry) (x : Entry) (xs : List Entry) → list_any (is_commit_on buffer) xs ≡ false
      → is_commit_on buffer x ≡ true
      → last_after (commit_on buffer) before (x ∷ xs) ≡ Some (length before)
  unfolding last_after
  last-here before x xs none here =
      ap (λ (o : Option ℕ). option_or o (commit_on buffer before x)) (last-none (before ++ x ∷ []) xs none)
      ∙ ap (λ (b : Bool). cond b (Some (length before)) None) here

  pub last-some : (before xs : List Entry) → list_any (is_commit_on buffer) xs ≡ true
      → IsSomeAnd (last_after (commit_on buffer) before xs) (λ k. length before ≤ k)
  unfolding last_after
  last-some before [] h = absurd cc
  last-some before (x ∷ xs) h = by_rest (list_any (is_commit_on buffer) xs) (last-some (before ++ x ∷ []) xs) refl
    where
      by_rest : (t : Bool) → (list_any (is_commit_on buffer) xs ≡ true
          → IsSomeAnd (last_after (commit_on buffer) (before ++ x ∷ []) xs) (λ k. length (before ++ x ∷ []) ≤ k))
          → list_any (is_commit_on buffer) xs ≡ t → IsSomeAnd (last_after (commit_on buffer) before (x ∷ xs))
          (λ k. length before ≤ k)
      by_rest true deeper more =
          further (last_after (commit_on buffer) (before ++ x ∷ []) xs) (commit_on buffer before x)
          (length (before ++ x ∷ [])) (length before) (omega (arith, length-append before (x ∷ []))) (deeper more)
      by_rest false deeper none =
          let here : is_commit_on buffer x ≡ true = sym (or_none (is_commit_on buffer x)) ∙ ap
          (λ (b : Bool). is_commit_on buffer x || b) (sym none) ∙ h in
          subst (λ (o : Option ℕ). IsSomeAnd o (λ k. length before ≤ k)) (sym (last-here before x xs none here))
          (omega arith)

  -- ---- its place

  -- the entry of this number is a commit on the buffer
  abbrev pub IsCommitAt : List Entry → ℕ → Type 0
  IsCommitAt xs k = IsSomeAnd (slice_get xs k) (λ e. is_commit_on buffer e ≡ true)

  commit_here : (before : List Entry) (x : Entry) (xs : List Entry) (t : Bool) → is_commit_on buffer x ≡ t
      → IfSome (cond t (Some (length before)) None) (λ k. IsCommitAt (before ++ x ∷ xs) k)
  commit_here before x xs true is = subst (λ (o : Option Entry). IsSomeAnd o (λ e. is_commit_on buffer e ≡ true))
      (sym (slice_get-next before x xs)) is
  commit_here before x xs false is = tt

  there_from : (before xs : List Entry) → IfSome (last_after (commit_on buffer) before xs)
      (λ k. IsCommitAt (before ++ xs) k)
  unfolding last_after
  there_from before [] = tt
  there_from before (x ∷ xs) =
      IfSome-or (λ k. IsCommitAt (before ++ x ∷ xs) k) (last_after (commit_on buffer) (before ++ x ∷ []) xs)
      (commit_on buffer before x)
      (subst (λ (l : List Entry). IfSome (last_after (commit_on buffer) (before ++ x ∷ []) xs) (λ k. IsCommitAt l k))
      (append_assoc before (x ∷ []) xs) (there_from (before ++ x ∷ []) xs))
      (commit_here before x xs (is_commit_on buffer x) refl)

  pub last_commit-there : (xs : List Entry) → IfSome (last_commit buffer xs) (λ k. IsCommitAt xs k)
  last_commit-there xs = there_from [] xs

  pub last_commit-below : (xs : List Entry) → IfSome (last_commit buffer xs) (λ k. k < length xs)
  last_commit-below xs = below (last_commit buffer xs) (last_commit-there xs)
    where
      below : (o : Option ℕ) → IfSome o (λ k. IsCommitAt xs k) → IfSome o (λ k. k < length xs)
      below None h = tt
      below (Some k) h = within (λ e. is_commit_on buffer e ≡ true) xs k h

  -- ---- one more entry

  pub last_commit-commit : (xs : List Entry) (e : Entry) → is_commit_on buffer e ≡ true
      → last_commit buffer (xs ++ e ∷ []) ≡ Some (length xs)
  last_commit-commit xs e on = last_after-snoc (commit_on buffer) xs e ∙ ap
      (λ (b : Bool). option_or (cond b (Some (length xs)) None) (last_commit buffer xs)) on

  pub last_commit-other : (xs : List Entry) (e : Entry) → is_commit_on buffer e ≡ false
      → last_commit buffer (xs ++ e ∷ []) ≡ last_commit buffer xs
  last_commit-other xs e off = last_after-snoc (commit_on buffer) xs e ∙ ap
      (λ (b : Bool). option_or (cond b (Some (length xs)) None) (last_commit buffer xs)) off

-- ---- its payload

pub payload_of-front : (xs : List Entry) (e : Entry) (k : ℕ) → k < length xs
    → payload_of (xs ++ e ∷ []) k ≡ payload_of xs k
payload_of-front xs e k lt = ap payload_in (slice_get-front xs (e ∷ []) k lt)

pub payload_of-next : (xs : List Entry) (task buffer : ℕ) (payload : List ℕ)
    → payload_of (xs ++ Commit task buffer payload ∷ []) (length xs) ≡ payload
payload_of-next xs task buffer payload = ap payload_in (slice_get-next xs (Commit task buffer payload) [])
