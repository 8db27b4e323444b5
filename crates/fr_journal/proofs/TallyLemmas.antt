-- The number of commits with each fate, and the number of pending ones.
use Rattle.std.proofs.Common.{◌≡◌, ℕ, suc, ◌+◌, ◌-◌, ◌≤◌, Bool, true, false, cond, eqb, ◌&&◌, List, [], ◌∷◌, ◌++◌, drop}
use Rattle.std.proofs.Common.{length, map, Option, Some, None, refl, ap, ◌∙◌, arith, length-append}
use Rattle.std.specs.Prelude.{count_by, IsSomeAnd, is_some}
use Rattle.std.specs.List.{list_any}
use Rattle.std.specs.Option.{option_and_then, option_or}
use Rattle.std.proofs.lemmas.List.Sums.{sum_by-cons, sum_by-append}
use Rattle.fr_journal.specs.Forms.{Entry}
use Rattle.fr_journal.specs.declared.fate.Fate.{Fate}
use Rattle.fr_journal.specs.declared.fate.Fate.TheVariants.{Sent, Withdrawn, Overwritten, Pending}
use Rattle.fr_journal.specs.Fate.{is_commit_on, commit_on, last_commit, sends, takes_back, fate_of, fates_from, fates}
use Rattle.fr_journal.specs.Fate.{is_sent, is_withdrawn, is_overwritten, is_pending, if_pending, pending_commit}
use Rattle.fr_journal.proofs.FateStepLemmas.{fate_by, after_commit, after_other}
use Rattle.fr_journal.proofs.LastCommitLemmas.{or-false, last-none, last-some}
use Rattle.fr_slots.specs.History.{last_after}

abbrev digit : Bool → ℕ
digit b = cond b 1 0

-- each commit has one fate
one_fate : (f : Fate) → digit (is_sent f) + digit (is_overwritten f) + digit (is_pending f) + digit (is_withdrawn f) ≡ 1
one_fate Sent = refl
one_fate Withdrawn = refl
one_fate Overwritten = refl
one_fate Pending = refl

pub fates_fill : (fs : List Fate) → count_by is_sent fs + count_by is_overwritten fs + count_by is_pending fs
    + count_by is_withdrawn fs ≡ length fs
fates_fill [] = refl
fates_fill (f ∷ fs) =
    omega (
      arith,
      fates_fill fs,
      one_fate f,
      sum_by-cons (λ x. cond (is_sent x) 1 0) f fs,
      sum_by-cons (λ x. cond (is_overwritten x) 1 0) f fs,
      sum_by-cons (λ x. cond (is_pending x) 1 0) f fs,
      sum_by-cons (λ x. cond (is_withdrawn x) 1 0) f fs,
    )

-- one more fate, under a change of all
counted : (p : Fate → Bool) (g : Fate → Fate) (f : Fate) (fs : List Fate)
    → count_by p (map g (f ∷ fs)) ≡ digit (p (g f)) + count_by p (map g fs)
counted p g f fs = sum_by-cons (λ x. cond (p x) 1 0) (g f) (map g fs)

one_more : (p : Fate → Bool) (f : Fate) (fs : List Fate) → count_by p (f ∷ fs) ≡ digit (p f) + count_by p fs
one_more p f fs = sum_by-cons (λ x. cond (p x) 1 0) f fs

-- the counts of some fates after a change
pub record Moved (fs gs : List Fate) (sent withdrawn overwritten left : ℕ) : Type 0 where
  pub sent_is : count_by is_sent gs ≡ count_by is_sent fs + sent
  pub withdrawn_is : count_by is_withdrawn gs ≡ count_by is_withdrawn fs + withdrawn
  pub overwritten_is : count_by is_overwritten gs ≡ count_by is_overwritten fs + overwritten
  pub pending_is : count_by is_pending gs ≡ left

one_moved : {sent withdrawn overwritten left sent_now withdrawn_now overwritten_now left_now : ℕ} (g : Fate → Fate)
    (f : Fate) (fs : List Fate)
    → digit (is_sent (g f)) + sent ≡ digit (is_sent f) + sent_now
    → digit (is_withdrawn (g f)) + withdrawn ≡ digit (is_withdrawn f) + withdrawn_now
    → digit (is_overwritten (g f)) + overwritten ≡ digit (is_overwritten f) + overwritten_now
    → digit (is_pending (g f)) + left ≡ left_now
    → Moved fs (map g fs) sent withdrawn overwritten left → Moved (f ∷ fs) (map g (f ∷ fs)) sent_now withdrawn_now
    overwritten_now left_now
one_moved g f fs s w o p more = record {
  sent_is = omega (arith, more.sent_is, s, counted is_sent g f fs, one_more is_sent f fs);
  withdrawn_is = omega (arith, more.withdrawn_is, w, counted is_withdrawn g f fs, one_more is_withdrawn f fs);
  overwritten_is = omega (arith, more.overwritten_is, o, counted is_overwritten g f fs, one_more is_overwritten f fs);
  pending_is = omega (arith, more.pending_is, p, counted is_pending g f fs);
}

none_moved : Moved [] [] 0 0 0 0
none_moved = record { sent_is = refl; withdrawn_is = refl; overwritten_is = refl; pending_is = refl }

pub after_commit-counts : (fs : List Fate) → Moved fs (map after_commit fs) 0 0 (count_by is_pending fs) 0
after_commit-counts [] = none_moved
after_commit-counts (Sent ∷ fs) = one_moved after_commit Sent fs refl refl
    (omega (arith, one_more is_pending Sent fs)) refl (after_commit-counts fs)
after_commit-counts (Withdrawn ∷ fs) = one_moved after_commit Withdrawn fs refl refl
    (omega (arith, one_more is_pending Withdrawn fs)) refl (after_commit-counts fs)
after_commit-counts (Overwritten ∷ fs) = one_moved after_commit Overwritten fs refl refl
    (omega (arith, one_more is_pending Overwritten fs)) refl (after_commit-counts fs)
after_commit-counts (Pending ∷ fs) = one_moved after_commit Pending fs refl refl
    (omega (arith, one_more is_pending Pending fs)) refl (after_commit-counts fs)

-- an entry that sends the last commit
pub sending-counts : (u : Bool) (fs : List Fate) → Moved fs (map (after_other true u) fs) (count_by is_pending fs) 0 0 0
sending-counts u [] = none_moved
sending-counts u (Sent ∷ fs) = one_moved (after_other true u) Sent fs
    (omega (arith, one_more is_pending Sent fs)) refl refl refl (sending-counts u fs)
sending-counts u (Withdrawn ∷ fs) = one_moved (after_other true u) Withdrawn fs
    (omega (arith, one_more is_pending Withdrawn fs)) refl refl refl (sending-counts u fs)
sending-counts u (Overwritten ∷ fs) = one_moved (after_other true u) Overwritten fs
    (omega (arith, one_more is_pending Overwritten fs)) refl refl refl (sending-counts u fs)
sending-counts u (Pending ∷ fs) = one_moved (after_other true u) Pending fs
    (omega (arith, one_more is_pending Pending fs)) refl refl refl (sending-counts u fs)

-- an entry that withdraws the last commit
pub withdrawing-counts : (fs : List Fate) → Moved fs (map (after_other false true) fs) 0 (count_by is_pending fs) 0 0
withdrawing-counts [] = none_moved
withdrawing-counts (Sent ∷ fs) = one_moved (after_other false true) Sent fs refl
    (omega (arith, one_more is_pending Sent fs)) refl refl (withdrawing-counts fs)
withdrawing-counts (Withdrawn ∷ fs) = one_moved (after_other false true) Withdrawn fs refl
    (omega (arith, one_more is_pending Withdrawn fs)) refl refl (withdrawing-counts fs)
withdrawing-counts (Overwritten ∷ fs) = one_moved (after_other false true) Overwritten fs refl
    (omega (arith, one_more is_pending Overwritten fs)) refl refl (withdrawing-counts fs)
withdrawing-counts (Pending ∷ fs) = one_moved (after_other false true) Pending fs refl
    (omega (arith, one_more is_pending Pending fs)) refl refl (withdrawing-counts fs)

-- an entry that does neither
pub same_fate : (f : Fate) → after_other false false f ≡ f
same_fate Sent = refl
same_fate Withdrawn = refl
same_fate Overwritten = refl
same_fate Pending = refl

pub same_fates : (fs : List Fate) → map (after_other false false) fs ≡ fs
same_fates [] = refl
same_fates (f ∷ fs) = λ i. same_fate f i ∷ same_fates fs i

-- ---- only the last commit on a buffer may be pending

-- without a commit there is no fate
fates_from-none : (buffer n : ℕ) (xs : List Entry) → list_any (is_commit_on buffer) xs ≡ false
    → fates_from buffer n xs ≡ []
unfolding fates_from
fates_from-none buffer n [] h = refl
fates_from-none buffer n (x ∷ xs) h =
    let parts : (is_commit_on buffer x ≡ false) × (list_any (is_commit_on buffer) xs ≡ false) =
    or-false (is_commit_on buffer x) (list_any (is_commit_on buffer) xs) h in
    ap (λ (b : Bool). cond b (fate_of buffer n xs ∷ []) [] ++ fates_from buffer (n + 1) xs) parts.0
    ∙ fates_from-none buffer (n + 1) xs parts.1

-- a commit before another one isn't pending
followed : (sent withdrawn : Bool) → is_pending (fate_by sent withdrawn true) ≡ false
followed true withdrawn = refl
followed false true = refl
followed false false = refl

counted_here : (b : Bool) (f : Fate) → count_by is_pending (cond b (f ∷ []) []) ≡ digit (b && is_pending f)
counted_here true f = omega (arith, sum_by-cons (λ x. cond (is_pending x) 1 0) f [])
counted_here false f = refl

pending_next : (buffer n : ℕ) (x : Entry) (xs : List Entry)
    → count_by is_pending (fates_from buffer n (x ∷ xs)) ≡ digit
    (is_commit_on buffer x && is_pending (fate_of buffer n xs)) + count_by is_pending (fates_from buffer (n + 1) xs)
unfolding fates_from
pending_next buffer n x xs =
    let here : List Fate = cond (is_commit_on buffer x) (fate_of buffer n xs ∷ []) [] in
    omega (
      arith,
      counted_here (is_commit_on buffer x) (fate_of buffer n xs),
      sum_by-append (λ f. cond (is_pending f) 1 0) here (fates_from buffer (n + 1) xs),
    )

-- The commit of this number is pending. The first entry has the number n.
pending_at : ℕ → ℕ → List Entry → Option ℕ → Bool
pending_at buffer n xs None = false
pending_at buffer n xs (Some k) = is_pending (fate_of buffer k (drop (k + 1 - n) xs))

and-false : (b : Bool) → (b && false) ≡ false
and-false true = refl
and-false false = refl

module _ (buffer : ℕ) (before : List Entry) (x : Entry) (xs : List Entry) where
  -- the entry is the last commit, or there is none
  at_entry : (b : Bool) → pending_at buffer (length before) (x ∷ xs) (cond b (Some (length before)) None) ≡
      (b && is_pending (fate_of buffer (length before) xs))
  unfolding pending_at
  at_entry true =
      let one : length before + 1 - length before ≡ 1 = omega arith in
      ap (λ (n : ℕ). is_pending (fate_of buffer (length before) (drop n (x ∷ xs)))) one
  at_entry false = refl

  -- the last commit comes later
  at_later : (o p : Option ℕ) → IsSomeAnd o (λ k. length (before ++ x ∷ []) ≤ k)
      → pending_at buffer (length before) (x ∷ xs) (option_or o p) ≡ pending_at buffer (length (before ++ x ∷ [])) xs o
  unfolding pending_at
  at_later None p h = absurd h
  at_later (Some k) p h =
      let next : k + 1 - length before ≡ suc (k + 1 - length (before ++ x ∷ [])) =
      omega (arith, h, length-append before (x ∷ [])) in
      ap (λ (n : ℕ). is_pending (fate_of buffer k (drop n (x ∷ xs)))) next

kept : (b : Bool) (k : ℕ) → cond (eqb (digit b) 1) (Some k) None ≡ cond b (Some k) None
kept true k = refl
kept false k = refl

chosen : (buffer : ℕ) (xs : List Entry) (o : Option ℕ) → cond (eqb (digit (pending_at buffer 0 xs o)) 1) o None ≡
    option_and_then (if_pending buffer xs) o
unfolding pending_at
chosen buffer xs None = refl
chosen buffer xs (Some k) =
    let place : k + 1 - 0 ≡ k + 1 = omega arith in
    ap (λ (n : ℕ). cond (eqb (digit (is_pending (fate_of buffer k (drop n xs)))) 1) (Some k) None) place ∙ kept
    (is_pending (fate_of buffer k (drop (k + 1) xs))) k

-- without a later commit
pending_here : (buffer : ℕ) (before : List Entry) (x : Entry) (xs : List Entry)
    → list_any (is_commit_on buffer) xs ≡ false
    → count_by is_pending (fates_from buffer (length before) (x ∷ xs)) ≡ digit
    (pending_at buffer (length before) (x ∷ xs) (option_or (last_after (commit_on buffer) (before ++ x ∷ []) xs)
    (commit_on buffer before x)))
pending_here buffer before x xs none =
    let last : option_or (last_after (commit_on buffer) (before ++ x ∷ []) xs) (commit_on buffer before x) ≡ cond
    (is_commit_on buffer x) (Some (length before)) None =
    ap (λ (o : Option ℕ). option_or o (commit_on buffer before x)) (last-none buffer (before ++ x ∷ []) xs none) in
    let right : digit (pending_at buffer (length before) (x ∷ xs)
    (option_or (last_after (commit_on buffer) (before ++ x ∷ []) xs) (commit_on buffer before x))) ≡ digit
    (is_commit_on buffer x && is_pending (fate_of buffer (length before) xs)) =
    ap (λ (o : Option ℕ). digit (pending_at buffer (length before) (x ∷ xs) o)) last ∙ ap digit
    (at_entry buffer before x xs (is_commit_on buffer x)) in
    let rest : count_by is_pending (fates_from buffer (length before + 1) xs) ≡ 0 =
    ap (count_by is_pending) (fates_from-none buffer (length before + 1) xs none) in
    omega (arith, pending_next buffer (length before) x xs, right, rest)

-- with a later commit
pending_later : (buffer : ℕ) (before : List Entry) (x : Entry) (xs : List Entry)
    → list_any (is_commit_on buffer) xs ≡ true
    → count_by is_pending (fates_from buffer (length (before ++ x ∷ [])) xs) ≡ digit
    (pending_at buffer (length (before ++ x ∷ [])) xs (last_after (commit_on buffer) (before ++ x ∷ []) xs))
    → count_by is_pending (fates_from buffer (length before) (x ∷ xs)) ≡ digit
    (pending_at buffer (length before) (x ∷ xs) (option_or (last_after (commit_on buffer) (before ++ x ∷ []) xs)
    (commit_on buffer before x)))
pending_later buffer before x xs more rest =
    let sent : Bool = list_any (sends (length before)) xs in
    let taken : Bool = list_any (takes_back (length before)) xs in
    let over : is_pending (fate_of buffer (length before) xs) ≡ false =
    ap (λ (b : Bool). is_pending (fate_by sent taken b)) more ∙ followed sent taken in
    let here : digit (is_commit_on buffer x && is_pending (fate_of buffer (length before) xs)) ≡ 0 =
    ap (λ (b : Bool). digit (is_commit_on buffer x && b)) over ∙ ap digit (and-false (is_commit_on buffer x)) in
    let right : digit (pending_at buffer (length before) (x ∷ xs)
    (option_or (last_after (commit_on buffer) (before ++ x ∷ []) xs) (commit_on buffer before x))) ≡ digit
    (pending_at buffer (length (before ++ x ∷ [])) xs (last_after (commit_on buffer) (before ++ x ∷ []) xs)) =
    ap digit (at_later buffer before x xs (last_after (commit_on buffer) (before ++ x ∷ []) xs)
    (commit_on buffer before x) (last-some buffer (before ++ x ∷ []) xs more)) in
    let place : count_by is_pending (fates_from buffer (length (before ++ x ∷ [])) xs) ≡ count_by is_pending
    (fates_from buffer (length before + 1) xs) =
    ap (λ (n : ℕ). count_by is_pending (fates_from buffer n xs)) (length-append before (x ∷ [])) in
    omega (arith, pending_next buffer (length before) x xs, here, right, place, rest)

pending-from : (buffer : ℕ) (before xs : List Entry) → count_by is_pending (fates_from buffer (length before) xs) ≡
    digit (pending_at buffer (length before) xs (last_after (commit_on buffer) before xs))
unfolding fates_from last_after pending_at
pending-from buffer before [] = refl
pending-from buffer before (x ∷ xs) =
    elim (list_any (is_commit_on buffer) xs) as (λ t. list_any (is_commit_on buffer) xs ≡ t
    → count_by is_pending (fates_from buffer (length before) (x ∷ xs)) ≡ digit
    (pending_at buffer (length before) (x ∷ xs) (option_or (last_after (commit_on buffer) (before ++ x ∷ []) xs)
    (commit_on buffer before x)))) [
      | true ↦ λ more. pending_later buffer before x xs more (pending-from buffer (before ++ x ∷ []) xs)
      | false ↦ λ none. pending_here buffer before x xs none
    ] refl

digit_most : (b : Bool) → digit b ≤ 1
digit_most true = omega arith
digit_most false = omega arith

-- at most one commit is pending
pub pending_most : (buffer : ℕ) (xs : List Entry) → count_by is_pending (fates buffer xs) ≤ 1
pending_most buffer xs = omega (
  arith,
  pending-from buffer [] xs,
  digit_most (pending_at buffer 0 xs (last_commit buffer xs)),
)

-- the last commit is pending exactly if the tally has a pending one
pub pending_commit-counts : (buffer : ℕ) (xs : List Entry) → cond (eqb (count_by is_pending (fates buffer xs)) 1)
    (last_commit buffer xs) None ≡ pending_commit buffer xs
pending_commit-counts buffer xs = counted (last_commit buffer xs) (pending-from buffer [] xs)
  where
    counted : (o : Option ℕ) → count_by is_pending (fates buffer xs) ≡ digit (pending_at buffer 0 xs o)
        → cond (eqb (count_by is_pending (fates buffer xs)) 1) o None ≡ option_and_then (if_pending buffer xs) o
    counted o is = ap (λ (n : ℕ). cond (eqb n 1) o None) is ∙ chosen buffer xs o

-- the tally has one pending commit exactly if there is one
pub pending-one : (buffer : ℕ) (xs : List Entry) → count_by is_pending (fates buffer xs) ≡ digit
    (is_some (pending_commit buffer xs))
unfolding pending_at
pending-one buffer xs = found (last_commit buffer xs) (pending-from buffer [] xs)
  where
    by_test : (b : Bool) (k : ℕ) → digit b ≡ digit (is_some (cond {A = Option ℕ} b (Some k) None))
    by_test true k = refl
    by_test false k = refl

    found : (o : Option ℕ) → count_by is_pending (fates buffer xs) ≡ digit (pending_at buffer 0 xs o)
        → count_by is_pending (fates buffer xs) ≡ digit (is_some (option_and_then (if_pending buffer xs) o))
    found None is = is
    found (Some k) is =
        let place : k + 1 - 0 ≡ k + 1 = omega arith in
        is ∙ ap (λ (n : ℕ). digit (is_pending (fate_of buffer k (drop n xs)))) place ∙ by_test
        (is_pending (fate_of buffer k (drop (k + 1) xs))) k
