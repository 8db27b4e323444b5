-- The fate of a commit, entry after entry.
use Rattle.std.proofs.Common.{◌≡◌, ℕ, ◌+◌, ◌-◌, ◌≤◌, ◌<◌, Bool, true, false, cond, ◌||◌, List, [], ◌∷◌, ◌++◌, length}
use Rattle.std.proofs.Common.{take, drop, Option, Some, None, option_map, refl, sym, ap, subst, ◌∙◌, append-nil, arith}
use Rattle.std.specs.Prelude.{slice_get, IsSomeAnd}
use Rattle.std.specs.List.{flat_map, list_any}
use Rattle.std.specs.Option.{option_or}
use Rattle.std.proofs.lemmas.Grind.{flat_map-append}
use Rattle.std.proofs.lemmas.List.Sums.{sum_by-append, count_by-le-length}
use Rattle.fr_journal.specs.Cycles.{begins_cycle_at, run_cycle}
use Rattle.fr_core.specs.Worlds.{WorldState}
use Rattle.fr_interface.specs.State.{State, IsLegalInterface}
use Rattle.fr_journal.proofs.FateStepLemmas.{fate_by}
use Rattle.fr_journal.proofs.LastCommitLemmas.{IsCommitAt, slice_get-front}
use Rattle.fr_journal.specs.Forms.{Entry, LentEntry}
use Rattle.fr_journal.specs.declared.entry.Entry.TheVariants.{Commit, Withdraw, Read, Pop, Fetch, Observe}
use Rattle.fr_journal.specs.Fate.{is_commit_on, is_data_of, sends, takes_back}
use Rattle.fr_journal.specs.Legal.{IsLegal}
use Rattle.fr_journal.specs.Lent.{whole}
use Rattle.fr_showing.proofs.DecidedLemmas.{undone, gone_by_commit, gone_by_withdraw}
use Rattle.fr_showing.proofs.GoingLemmas.{both, here, left_after, length_passed}
use Rattle.fr_showing.specs.CommitSteps.{entry_text, handed_text}
use Rattle.fr_showing.specs.CommitText.{commit_by, line_in, sending_text, Committed}
use Rattle.fr_showing.specs.declared.fates.Became.{Became}
use Rattle.fr_showing.specs.declared.fates.Became.TheVariants.{Sent, Withdrawn, Overwritten, Pending}
use Rattle.fr_showing.specs.Fates.{became_in, first_after, overwritten_by, sending_if, sendings_by, told_by}
use Rattle.fr_journal.specs.Cycles.{cycles_of}
use Rattle.fr_showing.specs.Fates.{withdrawn_by}
use Rattle.fr_showing.specs.FateSteps.{became_with, is_pending}
use Rattle.fr_slots.specs.declared.channel.Channel.TheVariants.{A, B}
use Rattle.fr_trace.proofs.WritingLemmas.{none_behind}
use Rattle.fr_slots.specs.History.{AllAfter, each_after}

-- ---- cycles

pub cycles_more : (es : List Entry) (n : ℕ) (e : Entry) → slice_get es n ≡ Some e
    → cycles_of (take (n + 1) es) ≡ cycles_of (take n es) + cond (begins_cycle_at e) 1 0
cycles_more es n e is =
    let h = here es n e is in
    ap cycles_of h.passed ∙ omega (
      arith,
      sum_by-append (λ (x : Entry). cond (begins_cycle_at x) 1 0) (take n es)
          (e ∷ []),
    )

pub cycles_few : (es : List Entry) (n : ℕ) → n ≤ length es → cycles_of (take n es) ≤ n
cycles_few es n le = omega (arith, count_by-le-length begins_cycle_at (take n es), length_passed es n le)

no_cycle : (buffer : ℕ) (e : Entry) → is_commit_on buffer e ≡ true → begins_cycle_at e ≡ false
no_cycle buffer (Commit task number payload) is = refl
no_cycle buffer (Withdraw task number of) is = refl
no_cycle buffer (Read task number from) is = refl
no_cycle buffer (Pop task from) is = refl
no_cycle buffer (Fetch w a b) is = absurd cc
no_cycle buffer (Observe number a b) is = refl

-- a commit begins no cycle
pub cycles_with : (es : List Entry) (buffer k : ℕ) → IsCommitAt buffer es k
    → cycles_of (take k es) ≡ cycles_of (take (k + 1) es)
cycles_with es buffer k there = by_entry (slice_get es k) refl there
  where
    by_entry : (o : Option Entry) → slice_get es k ≡ o → IsSomeAnd o (λ e. is_commit_on buffer e ≡ true)
        → cycles_of (take k es) ≡ cycles_of (take (k + 1) es)
    by_entry None is on = absurd on
    by_entry (Some e) is on =
        let none : ◌≡◌ {A = ℕ} (cond (begins_cycle_at e) 1 0) 0 =
        ap (λ (b : Bool). cond b 1 0) (no_cycle buffer e on) in
        omega (arith, cycles_more es k e is, none)

-- ---- the fate that one entry decides

module _ (buffer k : ℕ) (xs : List Entry) (e : Entry) (rest : List Entry) where
  abbrev sent_later : Bool
  sent_later = list_any (sends k) rest

  abbrev taken_later : Bool
  taken_later = list_any (takes_back k) rest

  abbrev replaced_later : Bool
  replaced_later = list_any (is_commit_on buffer) rest

  abbrev withdraws_later : Option Became
  withdraws_later = first_after (withdrawn_by k) (xs ++ e ∷ []) rest

  abbrev commits_later : Option Became
  commits_later = first_after (overwritten_by buffer) (xs ++ e ∷ []) rest

  abbrev if_withdraw : Bool → Option Became
  if_withdraw t = option_or (cond t (Some (Withdrawn (cycles_of xs) (length xs))) None) withdraws_later

  abbrev if_commit : Bool → Option Became
  if_commit t = option_or (cond t (Some (Overwritten (cycles_of xs) (length xs))) None) commits_later

  -- the fate by the tests of the entry: it sends the commit, withdraws it, or overwrites it
  abbrev by_tests : Bool → Bool → Bool → Bool → Bool → Became
  by_tests s t u sent taken =
      told_by (fate_by (s || sent) (t || taken) (u || replaced_later)) (if_withdraw t) (if_commit u)

  became_here : became_in buffer k xs (e ∷ rest) ≡ by_tests (sends k e) (takes_back k e)
      (is_commit_on buffer e) sent_later taken_later
  unfolding first_after
  became_here = refl

  undecided_by : sends k e ≡ false → takes_back k e ≡ false → is_commit_on buffer e ≡ false
      → became_in buffer k xs (e ∷ rest) ≡ became_in buffer k (xs ++ e ∷ []) rest
  undecided_by unsent untaken off = became_here ∙ (λ i. by_tests (unsent i) (untaken i) (off i) sent_later taken_later)

  by_sent : sends k e ≡ true → became_in buffer k xs (e ∷ rest) ≡ Sent
  by_sent is = became_here ∙ (λ i. by_tests (is i) (takes_back k e) (is_commit_on buffer e) sent_later taken_later)

  by_withdraw : sends k e ≡ false → takes_back k e ≡ true → sent_later ≡ false
      → became_in buffer k xs (e ∷ rest) ≡ Withdrawn (cycles_of xs) (length xs)
  by_withdraw unsent is later = became_here ∙ (λ i. by_tests (unsent i) (is i) (is_commit_on buffer e)
      (later i) taken_later)

  by_commit : sends k e ≡ false → takes_back k e ≡ false → is_commit_on buffer e ≡ true → sent_later ≡ false
      → taken_later ≡ false
      → became_in buffer k xs (e ∷ rest) ≡ Overwritten (cycles_of xs) (length xs)
  by_commit unsent untaken is unsent_later untaken_later =
      became_here ∙ (λ i. by_tests (unsent i) (untaken i) (is i) (unsent_later i) (untaken_later i))

  pub undecided : (cycle number : ℕ) → is_pending (became_with buffer k cycle number e) ≡ true
      → became_in buffer k xs (e ∷ rest) ≡ became_in buffer k (xs ++ e ∷ []) rest
  undecided cycle number is = cases (sends k e) (takes_back k e) (is_commit_on buffer e) refl refl refl is
    where
      cases : (s t u : Bool) → sends k e ≡ s → takes_back k e ≡ t → is_commit_on buffer e ≡ u
          → is_pending (cond s Sent (cond t (Withdrawn cycle number) (cond u (Overwritten cycle number) Pending)))
          ≡ true
          → became_in buffer k xs (e ∷ rest) ≡ became_in buffer k (xs ++ e ∷ []) rest
      cases true t u s_is t_is u_is is = absurd cc
      cases false true u s_is t_is u_is is = absurd cc
      cases false false true s_is t_is u_is is = absurd cc
      cases false false false s_is t_is u_is is = undecided_by s_is t_is u_is

pub commit_within : (es : List Entry) (buffer k : ℕ) → IsCommitAt buffer es k → k < length es
commit_within es buffer k there = by_entry (slice_get es k) refl there
  where
    by_entry : (o : Option Entry) → slice_get es k ≡ o → IsSomeAnd o (λ e. is_commit_on buffer e ≡ true) → k < length es
    by_entry None is on = absurd on
    by_entry (Some e) is on = (here es k e is).within

module _ (s : State) (buffer k : ℕ) (legal : IsLegalInterface s) (there : IsCommitAt buffer s.entries k) where
  module _ (n : ℕ) (e : Entry) (later : k < n) (is : slice_get s.entries n ≡ Some e) where
    abbrev before : List Entry
    before = take n s.entries

    abbrev behind : List Entry
    behind = drop (n + 1) s.entries

    legal_here : AllAfter (IsLegal s.params s.plan) before (e ∷ behind)
    legal_here =
        let h = here s.entries n e is in
        subst (AllAfter (IsLegal s.params s.plan) before) h.left
        (left_after (IsLegal s.params s.plan) s.entries n legal.legal)

    long : k < length before
    long = let h = here s.entries n e is in omega (arith, later, h.place)

    there_here : IsCommitAt buffer before k
    there_here =
        let same : slice_get s.entries k ≡ slice_get before k =
        ap (λ (l : List Entry). slice_get l k) (sym (both s.entries n)) ∙ slice_get-front before
        (drop n s.entries) k long in
        subst (λ (o : Option Entry). IsSomeAnd o (λ e. is_commit_on buffer e ≡ true)) same there

    longer : k < length (before ++ e ∷ [])
    longer = let h = here s.entries n e is in omega (
      arith,
      long,
      ap (length {A = Entry}) h.passed,
      length_passed s.entries (n + 1) (omega (arith, h.within)),
      later,
    )

    there_then : IsCommitAt buffer (before ++ e ∷ []) k
    there_then =
        subst (λ (o : Option Entry). IsSomeAnd o (λ e. is_commit_on buffer e ≡ true))
        (sym (slice_get-front before (e ∷ []) k long)) there_here

    legal_now : IsLegal s.params s.plan before e
    unfolding AllAfter
    legal_now = legal_here.0

    legal_then : AllAfter (IsLegal s.params s.plan) (before ++ e ∷ []) behind
    unfolding AllAfter
    legal_then = legal_here.1

    after_withdraw : takes_back k e ≡ true → (list_any (sends k) behind ≡ false) ×
        (list_any (takes_back k) behind ≡ false)
    after_withdraw taken =
        undone s.params s.plan buffer k (before ++ e ∷ []) behind legal_then longer there_then
        (gone_by_withdraw s.params s.plan buffer k before e legal_now there_here taken)

    pub after_commit : is_commit_on buffer e ≡ true → (list_any (sends k) behind ≡ false) ×
        (list_any (takes_back k) behind ≡ false)
    after_commit on =
        undone s.params s.plan buffer k (before ++ e ∷ []) behind legal_then longer there_then
        (gone_by_commit s.params s.plan buffer k before e long on)

    at_place : became_in buffer k before (drop n s.entries) ≡ became_in buffer k before (e ∷ behind)
    at_place = ap (became_in buffer k before) (here s.entries n e is).left

    -- the entry doesn't change it
    pub same_then : (cycle : ℕ) → is_pending (became_with buffer k cycle n e) ≡ true
        → became_in buffer k before (drop n s.entries) ≡ became_in buffer k (take (n + 1) s.entries) behind
    same_then cycle pending =
        at_place ∙ undecided buffer k before e behind cycle n pending ∙ ap
        (λ (l : List Entry). became_in buffer k l behind) (sym (here s.entries n e is).passed)

    -- the entry decides
    pub decided : (cycle : ℕ) → cycle ≡ cycles_of before → is_pending (became_with buffer k cycle n e) ≡ false
        → became_with buffer k cycle n e ≡ became_in buffer k before (drop n s.entries)
    decided cycle cycle_is found = cases (sends k e) (takes_back k e) (is_commit_on buffer e) refl refl refl found
        ∙ sym at_place
      where
        number_is : length before ≡ n
        number_is = (here s.entries n e is).place

        cases : (s t u : Bool) → sends k e ≡ s → takes_back k e ≡ t → is_commit_on buffer e ≡ u
            → is_pending (cond s Sent (cond t (Withdrawn cycle n) (cond u (Overwritten cycle n) Pending))) ≡ false
            → cond s Sent (cond t (Withdrawn cycle n) (cond u (Overwritten cycle n) Pending))
            ≡ became_in buffer k before (e ∷ behind)
        cases true t u s_is t_is u_is found = sym (by_sent buffer k before e behind s_is)
        cases false true u s_is t_is u_is found =
            (λ i. Withdrawn (cycle_is i) (sym number_is i)) ∙ sym
            (by_withdraw buffer k before e behind s_is t_is (after_withdraw t_is).0)
        cases false false true s_is t_is u_is found =
            let later = after_commit u_is in
            (λ i. Overwritten (cycle_is i) (sym number_is i)) ∙ sym
            (by_commit buffer k before e behind s_is t_is u_is later.0 later.1)
        cases false false false s_is t_is u_is found = absurd cc

-- if no entry is left, the commit is pending
pub pending_then : (buffer k : ℕ) (xs left : List Entry) → left ≡ [] → became_in buffer k xs left ≡ Pending
pending_then buffer k xs left none = ap (became_in buffer k xs) none

-- ---- the windows in which it is sent

both_false : (a b : Bool) → (a || b) ≡ false → (a ≡ false) × (b ≡ false)
both_false true b is = absurd cc
both_false false b is = (refl, is)

unsent_by : (k : ℕ) (xs : List Entry) (e : Entry) → sends k e ≡ false → sendings_by k xs e ≡ []
unsent_by k xs (Commit task buffer payload) is = refl
unsent_by k xs (Withdraw task buffer of) is = refl
unsent_by k xs (Read task buffer from) is = refl
unsent_by k xs (Pop task from) is = refl
unsent_by k xs (Fetch w a b) is =
    let parts = both_false (is_data_of k a) (is_data_of k b) is in
    let cycle : ℕ = run_cycle (xs ++ Fetch w a b ∷ []) in
    λ i. cond (parts.0 i) (record { cycle = cycle; window = w; channel = A } ∷ []) [] ++ cond (parts.1 i)
    (record { cycle = cycle; window = w; channel = B } ∷ []) []
unsent_by k xs (Observe number a b) is = refl

pub unsent_later : (k : ℕ) (xs rest : List Entry) → list_any (sends k) rest ≡ false
    → each_after (sendings_by k) xs rest ≡ []
unfolding each_after
unsent_later k xs [] is = refl
unsent_later k xs (e ∷ rest) is =
    let parts = both_false (sends k e) (list_any (sends k) rest) is in
    (λ i. unsent_by k xs e parts.0 i ++ unsent_later k (xs ++ e ∷ []) rest parts.1 i)

pub handed_is : (w : WorldState) (node k cycle : ℕ) (before : List Entry) (e : Entry)
    → cycle ≡ run_cycle (before ++ e ∷ [])
    → handed_text w node k cycle e ≡ flat_map (sending_text w node) (sendings_by k before e)
handed_is w node k cycle before (Commit task buffer payload) is = refl
handed_is w node k cycle before (Withdraw task buffer of) is = refl
handed_is w node k cycle before (Read task buffer from) is = refl
handed_is w node k cycle before (Pop task from) is = refl
handed_is w node k cycle before (Fetch window a b) is =
    let now : ℕ = run_cycle (before ++ Fetch window a b ∷ []) in
    (λ i. flat_map (sending_text w node) (sending_if k (is i) window A a) ++ flat_map (sending_text w node)
    (sending_if k (is i) window B b))
    ∙ sym (flat_map-append (sending_text w node) (sending_if k now window A a) (sending_if k now window B b))
handed_is w node k cycle before (Observe number a b) is = refl

-- ---- lines

pub entry_is : (w : WorldState) (node : ℕ) (es : List Entry) (cycle number : ℕ) (before : List Entry) (e : Entry)
    → cycle ≡ cycles_of before → number ≡ length before
    → entry_text w node es cycle number e ≡ flat_map (line_in w es) (commit_by node before e)
entry_is w node es cycle number before (Commit task buffer payload) cycle_is number_is =
    let made : ℕ → ℕ → Committed = λ (c n : ℕ). record {
      node = node;
      buffer = buffer;
      task = task;
      cycle = c;
      entry =
          n;
      payload = payload;
    } in
    (λ i. line_in w es (made (cycle_is i) (number_is i))) ∙ sym
    (append-nil (line_in w es (made (cycles_of before) (length before))))
entry_is w node es cycle number before (Withdraw task buffer of) cycle_is number_is = refl
entry_is w node es cycle number before (Read task buffer from) cycle_is number_is = refl
entry_is w node es cycle number before (Pop task from) cycle_is number_is = refl
entry_is w node es cycle number before (Fetch window a b) cycle_is number_is = refl
entry_is w node es cycle number before (Observe number_seen a b) cycle_is number_is = refl

-- ---- an entry of a journal, borrowed

pub lent_there : (es journal : List Entry) (n : ℕ) (o : Option LentEntry) (e : LentEntry) → journal ≡ es
    → option_map whole o ≡ slice_get journal n → o ≡ Some e → slice_get es n ≡ Some (whole e)
lent_there es journal n o e same lent is = ap (λ (l : List Entry). slice_get l n) (sym same) ∙ sym lent ∙ ap
    (option_map whole) is

pub lent_none : (es journal : List Entry) (n count : ℕ) (o : Option LentEntry) → journal ≡ es
    → option_map whole o ≡ slice_get journal n → count ≡ length journal → n < count → o ≡ None → ⊥
lent_none es journal n count o same lent long lt is = none_behind journal n (omega (arith, long, lt))
    (sym lent ∙ ap (option_map whole) is)

-- after the next commit on its buffer, none of its sendings is left
module _ (s : State) (buffer k : ℕ) (legal : IsLegalInterface s) (there : IsCommitAt buffer s.entries k) where
  pub unsent_here : (n : ℕ) (e : Entry) → k < n → slice_get s.entries n ≡ Some e → is_commit_on buffer e ≡ true
      → each_after (sendings_by k) (take n s.entries) (drop n s.entries) ≡ []
  unfolding each_after
  unsent_here n e later is on =
      let h = here s.entries n e is in
      let unsent : list_any (sends k) (drop (n + 1) s.entries) ≡ false =
      (after_commit s buffer k legal there n e later is on).0 in
      ap (λ (l : List Entry). each_after (sendings_by k) (take n s.entries) l) h.left
      ∙ (λ i. unsent_by k (take n s.entries) e (never e on) i ++ unsent_later k (take n s.entries ++ e ∷ [])
      (drop (n + 1) s.entries) unsent i)
    where
      never : (e : Entry) → is_commit_on buffer e ≡ true → sends k e ≡ false
      never (Commit task number payload) on = refl
      never (Withdraw task number of) on = refl
      never (Read task number from) on = refl
      never (Pop task from) on = refl
      never (Fetch w a b) on = absurd cc
      never (Observe number a b) on = refl
