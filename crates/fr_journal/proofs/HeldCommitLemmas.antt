-- The commit that a transmit buffer holds, with one more entry.
use Rattle.std.proofs.Common.{◌≡◌, ℕ, ◌+◌, ◌<◌, Bool, true, false, cond, not, eqb, ◌||◌, ◌&&◌, List, [], ◌∷◌, ◌++◌}
use Rattle.std.proofs.Common.{drop, length, Option, Some, None, refl, sym, ap, subst, ◌∙◌, arith, count_by}
use Rattle.std.specs.Prelude.{IfSome, IsSomeAnd, slice_get}
use Rattle.std.specs.List.{list_any}
use Rattle.std.specs.Option.{option_and_then}
use Rattle.std.proofs.lemmas.Bool.{eqb-true}
use Rattle.std.proofs.lemmas.List.Folds.{list_any-append}
use Rattle.fr_journal.specs.Forms.{Entry}
use Rattle.fr_journal.specs.declared.entry.Entry.TheVariants.{Commit}
use Rattle.fr_journal.specs.Fate.{is_commit_on, last_commit, sends, takes_back, fate_of, fates, is_withdrawn}
use Rattle.fr_journal.specs.Fate.{is_pending, if_pending, pending_commit, unless_withdrawn, held_commit}
use Rattle.fr_journal.proofs.FateStepLemmas.{fate_by}
use Rattle.fr_journal.proofs.LastCommitLemmas.{IsCommitAt, last_commit-there, last_commit-below, last_commit-commit}
use Rattle.fr_journal.proofs.LastCommitLemmas.{last_commit-other, drop-front, drop-next}
use Rattle.fr_journal.proofs.TallyLemmas.{pending_commit-counts}

-- ---- a held or pending commit is the last one

kept_if : (t : Bool) (j k : ℕ) → cond t (Some j) None ≡ Some k → (t ≡ true) × (j ≡ k)
kept_if true j k e = (refl, cc)
kept_if false j k e = absurd cc

kept_unless : (t : Bool) (j k : ℕ) → cond t None (Some j) ≡ Some k → (t ≡ false) × (j ≡ k)
kept_unless true j k e = absurd cc
kept_unless false j k e = (refl, cc)

-- the commit of this number is pending
abbrev pub pending_at : ℕ → List Entry → ℕ → Bool
pending_at number xs k = is_pending (fate_of number k (drop (k + 1) xs))

abbrev pub withdrawn_at : ℕ → List Entry → ℕ → Bool
withdrawn_at number xs k = is_withdrawn (fate_of number k (drop (k + 1) xs))

module _ (number : ℕ) (xs : List Entry) where
  pub pending_is : (k : ℕ) → pending_commit number xs ≡ Some k
      → (last_commit number xs ≡ Some k) × (pending_at number xs k ≡ true)
  pending_is k e = found (last_commit number xs) e
    where
      found : (o : Option ℕ) → option_and_then (if_pending number xs) o ≡ Some k
          → (o ≡ Some k) × (pending_at number xs k ≡ true)
      found None e = absurd cc
      found (Some j) e =
          let parts = kept_if (pending_at number xs j) j k e in
          (ap (λ (n : ℕ). let o : Option ℕ = Some n in o) parts.1, ap (pending_at number xs) (sym parts.1) ∙ parts.0)

  pub held_is : (k : ℕ) → held_commit number xs ≡ Some k → (last_commit number xs ≡ Some k) ×
      (withdrawn_at number xs k ≡ false)
  held_is k e = found (last_commit number xs) e
    where
      found : (o : Option ℕ) → option_and_then (unless_withdrawn number xs) o ≡ Some k
          → (o ≡ Some k) × (withdrawn_at number xs k ≡ false)
      found None e = absurd cc
      found (Some j) e =
          let parts = kept_unless (withdrawn_at number xs j) j k e in
          (ap (λ (n : ℕ). let o : Option ℕ = Some n in o) parts.1, ap (withdrawn_at number xs) (sym parts.1) ∙ parts.0)

  -- a buffer without a commit holds none
  pub held-none : last_commit number xs ≡ None → held_commit number xs ≡ None
  held-none e = ap (option_and_then (unless_withdrawn number xs)) e

  pub held-some : (k : ℕ) → last_commit number xs ≡ Some k → withdrawn_at number xs k ≡ false
      → held_commit number xs ≡ Some k
  held-some k last stands = ap (option_and_then (unless_withdrawn number xs)) last ∙ ap
      (λ (t : Bool). cond t None (Some k)) stands

  pub held-withdrawn : (k : ℕ) → last_commit number xs ≡ Some k → withdrawn_at number xs k ≡ true
      → held_commit number xs ≡ None
  held-withdrawn k last taken = ap (option_and_then (unless_withdrawn number xs)) last ∙ ap
      (λ (t : Bool). cond t None (Some k)) taken

  pub held-below : IfSome (held_commit number xs) (λ k. k < length xs)
  held-below = below (last_commit number xs) (last_commit-below number xs)
    where
      by_test : (t : Bool) (k : ℕ) → k < length xs → IfSome (cond t None (Some k)) (λ j. j < length xs)
      by_test true k lt = tt
      by_test false k lt = lt

      below : (o : Option ℕ) → IfSome o (λ k. k < length xs)
          → IfSome (option_and_then (unless_withdrawn number xs) o) (λ k. k < length xs)
      below None h = tt
      below (Some k) h = by_test (withdrawn_at number xs k) k h

-- ---- a pending commit isn't withdrawn

one_of_both : (s w c : Bool) → is_pending (fate_by s w c) ≡ true → is_withdrawn (fate_by s w c) ≡ false
one_of_both true w c e = refl
one_of_both false true c e = absurd cc
one_of_both false false true e = refl
one_of_both false false false e = refl

pub pending_stands : (number : ℕ) (xs : List Entry) (k : ℕ) → pending_at number xs k ≡ true
    → withdrawn_at number xs k ≡ false
pending_stands number xs k = one_of_both (list_any (sends k) (drop (k + 1) xs))
    (list_any (takes_back k) (drop (k + 1) xs)) (list_any (is_commit_on number) (drop (k + 1) xs))

-- the pending commit is the held commit, if the tally has a pending one
pub held_pending-counts : (number : ℕ) (xs : List Entry) → cond (eqb (count_by is_pending (fates number xs)) 1)
    (held_commit number xs) None ≡ pending_commit number xs
held_pending-counts number xs = by_count (eqb (count_by is_pending (fates number xs)) 1)
    (pending_commit-counts number xs)
  where
    found : (o : Option ℕ) → last_commit number xs ≡ o → o ≡ pending_commit number xs
        → held_commit number xs ≡ pending_commit number xs
    found None last is = held-none number xs last ∙ is
    found (Some k) last is =
        let parts = pending_is number xs k (sym is) in
        held-some number xs k last (pending_stands number xs k parts.1) ∙ is

    by_count : (t : Bool) → cond t (last_commit number xs) None ≡ pending_commit number xs
        → cond t (held_commit number xs) None ≡ pending_commit number xs
    by_count true is = found (last_commit number xs) refl is
    by_count false is = is

-- ---- one more entry

withdrawn_by : (s w c : Bool) → is_withdrawn (fate_by s w c) ≡ (not s && w)
withdrawn_by true w c = refl
withdrawn_by false true c = refl
withdrawn_by false false true = refl
withdrawn_by false false false = refl

or_none : (b : Bool) → (b || false) ≡ b
or_none true = refl
or_none false = refl

module _ (number : ℕ) (xs : List Entry) (e : Entry) where
  -- a test of the entries after a commit, with one more entry
  later : (k : ℕ) → k < length xs → (p : Entry → Bool) → list_any p (drop (k + 1) (xs ++ e ∷ [])) ≡
      (list_any p (drop (k + 1) xs) || p e)
  later k lt p =
      ap (list_any p) (drop-front xs (e ∷ []) (k + 1) (omega (arith, lt))) ∙ list_any-append p (drop (k + 1) xs)
      (e ∷ [])
      ∙ ap (λ (b : Bool). list_any p (drop (k + 1) xs) || b) (or_none (p e))

  withdrawn_then : (k : ℕ) → k < length xs → withdrawn_at number (xs ++ e ∷ []) k
      ≡ (not (list_any (sends k) (drop (k + 1) xs) || sends k e) &&
      (list_any (takes_back k) (drop (k + 1) xs) || takes_back k e))
  withdrawn_then k lt =
      withdrawn_by (list_any (sends k) (drop (k + 1) (xs ++ e ∷ [])))
      (list_any (takes_back k) (drop (k + 1) (xs ++ e ∷ [])))
      (list_any (is_commit_on number) (drop (k + 1) (xs ++ e ∷ [])))
      ∙ (λ i. not (later k lt (sends k) i) && later k lt (takes_back k) i)

  withdrawn_now : (k : ℕ) → withdrawn_at number xs k ≡ (not (list_any (sends k) (drop (k + 1) xs)) && list_any
      (takes_back k) (drop (k + 1) xs))
  withdrawn_now k = withdrawn_by (list_any (sends k) (drop (k + 1) xs)) (list_any (takes_back k) (drop (k + 1) xs))
      (list_any (is_commit_on number) (drop (k + 1) xs))

  -- a commit is withdrawn as before if the entry doesn't withdraw it, and sends no withdrawn commit
  same_by : (s w t : Bool) → (t ≡ true → (not s && w) ≡ false) → (not (s || t) && (w || false)) ≡ (not s && w)
  same_by true w t h = refl
  same_by false w false h = or_none w
  same_by false w true h = sym (h refl)

  same_withdrawn : (k : ℕ) → k < length xs → takes_back k e ≡ false
      → (sends k e ≡ true → withdrawn_at number xs k ≡ false)
      → withdrawn_at number (xs ++ e ∷ []) k ≡ withdrawn_at number xs k
  same_withdrawn k lt untaken unsent =
      let s : Bool = list_any (sends k) (drop (k + 1) xs) in
      let w : Bool = list_any (takes_back k) (drop (k + 1) xs) in
      withdrawn_then k lt ∙ ap (λ (b : Bool). not (s || sends k e) && (w || b)) untaken
      ∙ same_by s w (sends k e) (λ sent. sym (withdrawn_now k) ∙ unsent sent) ∙ sym (withdrawn_now k)

  -- an entry that isn't a commit on the buffer, sends no withdrawn commit, and doesn't withdraw the last one
  pub held-other : is_commit_on number e ≡ false → ((k : ℕ) → last_commit number xs ≡ Some k → takes_back k e ≡ false)
      → ((k : ℕ) → last_commit number xs ≡ Some k → sends k e ≡ true → withdrawn_at number xs k ≡ false)
      → held_commit number (xs ++ e ∷ []) ≡ held_commit number xs
  held-other off untaken unsent =
      ap (option_and_then (unless_withdrawn number (xs ++ e ∷ []))) (last_commit-other number xs e off) ∙ by_last
      (last_commit number xs) (last_commit-below number xs) untaken unsent
    where
      by_last : (o : Option ℕ) → IfSome o (λ k. k < length xs) → ((k : ℕ) → o ≡ Some k → takes_back k e ≡ false)
          → ((k : ℕ) → o ≡ Some k → sends k e ≡ true → withdrawn_at number xs k ≡ false)
          → option_and_then (unless_withdrawn number (xs ++ e ∷ [])) o ≡ option_and_then (unless_withdrawn number xs) o
      by_last None h p q = refl
      by_last (Some k) h p q = ap (λ (t : Bool). cond {A = Option ℕ} t None (Some k))
          (same_withdrawn k h (p k refl) (q k refl))

  -- an entry that sends no commit and withdraws none
  pub held-same : is_commit_on number e ≡ false → ((k : ℕ) → takes_back k e ≡ false) → ((k : ℕ) → sends k e ≡ false)
      → held_commit number (xs ++ e ∷ []) ≡ held_commit number xs
  held-same off untaken unsent = held-other off (λ k _. untaken k)
      (λ k _ sent. let never : false ≡ true = sym (unsent k) ∙ sent in absurd cc)

  -- a commit is held at once
  pub held-commit : is_commit_on number e ≡ true → held_commit number (xs ++ e ∷ []) ≡ Some (length xs)
  held-commit on =
      let none : drop (length xs + 1) (xs ++ e ∷ []) ≡ [] = drop-next xs e [] in
      held-some number (xs ++ e ∷ []) (length xs) (last_commit-commit number xs e on)
      (ap (λ (l : List Entry). is_withdrawn (fate_of number (length xs) l)) none)

  -- the withdraw of a pending commit leaves the buffer empty
  pub held-taken : is_commit_on number e ≡ false → ((k : ℕ) → sends k e ≡ false) → (k : ℕ)
      → pending_commit number xs ≡ Some k → takes_back k e ≡ true → held_commit number (xs ++ e ∷ []) ≡ None
  held-taken off unsent k pending taken =
      let parts = pending_is number xs k pending in
      let lt : k < length xs = subst (λ (o : Option ℕ). IfSome o (λ j. j < length xs)) parts.0
      (last_commit-below number xs) in
      let s : Bool = list_any (sends k) (drop (k + 1) xs) in
      let w : Bool = list_any (takes_back k) (drop (k + 1) xs) in
      let c : Bool = list_any (is_commit_on number) (drop (k + 1) xs) in
      held-withdrawn number (xs ++ e ∷ []) k (last_commit-other number xs e off ∙ parts.0)
      (withdrawn_then k lt ∙ (λ i. not (s || unsent k i) && (w || taken i)) ∙ now_withdrawn s w c parts.1)
    where
      now_withdrawn : (s w c : Bool) → is_pending (fate_by s w c) ≡ true → (not (s || false) && (w || true)) ≡ true
      now_withdrawn true w c e = absurd cc
      now_withdrawn false true c e = refl
      now_withdrawn false false c e = refl

-- ---- one commit is on one buffer

on_both : (m n : ℕ) (e : Entry) → is_commit_on m e ≡ true → is_commit_on n e ≡ true → m ≡ n
on_both m n (Commit task buffer payload) p q = sym (eqb-true buffer m p) ∙ eqb-true buffer n q
on_both m n e p q = absurd cc

pub same_entry : (m n : ℕ) (o : Option Entry) → IsSomeAnd o (λ e. is_commit_on m e ≡ true)
    → IsSomeAnd o (λ e. is_commit_on n e ≡ true) → m ≡ n
same_entry m n None p q = absurd p
same_entry m n (Some e) p q = on_both m n e p q

module _ (xs : List Entry) where
  pub last_there : (number k : ℕ) → last_commit number xs ≡ Some k → IsCommitAt number xs k
  last_there number k is = subst (λ (o : Option ℕ). IfSome o (λ j. IsCommitAt number xs j)) is
      (last_commit-there number xs)

  -- two buffers have no commit in common
  pub one_buffer : (m n k : ℕ) → last_commit m xs ≡ Some k → last_commit n xs ≡ Some k → m ≡ n
  one_buffer m n k p q = same_entry m n (slice_get xs k) (last_there m k p) (last_there n k q)
