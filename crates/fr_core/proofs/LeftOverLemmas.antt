-- The remainder of an account is the commit that the buffer has ready.
use Rattle.std.proofs.Common.{◌≡◌, ℕ, Bool, true, false, cond, ◌&&◌, ◌||◌, List, [], ◌∷◌, ◌++◌, Option, Some, None}
use Rattle.std.proofs.Common.{refl, sym, ap, ◌∙◌, option_map}
use Rattle.std.specs.Prelude.{◌==◌, is_some}
use Rattle.std.proofs.lemmas.Bool.{eqb-true, eq-eqb}
use Rattle.fr_core.specs.Accounts.{Kept, commits, withdraws, turns, is_window_of, is_buffer_of, kept_at}
use Rattle.fr_journal.specs.Cycles.{run_cycle}
use Rattle.fr_core.specs.Accounts.{account, is_event, Left, empty, given, taken_back, sent_out, is_turn_of, left_after}
use Rattle.fr_core.specs.Accounts.{left_over}
use Rattle.fr_core.proofs.CaseLemmas.{differ}
use Rattle.fr_core.proofs.ReadyLemmas.{pending-new, pending-same, pending-gone, ready_is_last, pending_is_ready}
use Rattle.fr_core.proofs.ReadyLemmas.{paid-same, ready-new, ready-same, ready-taken}
use Rattle.fr_journal.proofs.HeldCommitLemmas.{pending_is, held_is, held-other, one_buffer}
use Rattle.fr_journal.proofs.LastCommitLemmas.{payload_of-next}
use Rattle.fr_journal.specs.Forms.{Entry}
use Rattle.fr_journal.specs.declared.entry.Entry.TheVariants.{Commit, Withdraw, Read, Pop, Fetch, Observe}
use Rattle.fr_journal.specs.declared.entry.Offered.{Offered}
use Rattle.fr_journal.specs.Fate.{is_commit_on, last_commit, sends, takes_back, pending_commit, held_commit}
use Rattle.fr_journal.specs.Offers.{ready, payload_of}
use Rattle.fr_slots.specs.Plans.{buffer_at, Plan, is_receive}
use Rattle.fr_slots.specs.declared.plan.Buffer.{Buffer}
use Rattle.fr_slots.specs.declared.plan.Mode.{Mode}
use Rattle.fr_slots.specs.declared.plan.Mode.TheVariants as mode
use Rattle.fr_slots.specs.History.{AllAfter, each_after, last_after}
use Rattle.fr_slots.specs.Windows.{Opportunity}
use Rattle.fr_slots.proofs.HistoryLemmas.{each_after-snoc, AllAfter-induction}

-- ---- a buffer after a journal

-- the payload of the commit that is ready, and a flag for a pending last commit
abbrev pub left_by : Mode → ℕ → List Entry → Left
left_by m k es = record { payload = option_map (payload_of es) (ready m k es); pending = is_some (pending_commit k es) }

left_none : (m : Mode) (k : ℕ) → left_by m k [] ≡ empty
unfolding last_after
left_none mode.Event k = refl
left_none mode.State k = refl
left_none mode.Receive k = refl

module _ (m : Mode) (k : ℕ) (es : List Entry) where
  ready_paid : (e : Entry) → option_map (payload_of (es ++ e ∷ [])) (ready m k es) ≡ option_map (payload_of es)
      (ready m k es)
  ready_paid e = paid-same k es e (ready m k es) (λ number is. ready_is_last m k number es is)

  left_new : (task j : ℕ) (payload : List ℕ) → is_receive m ≡ false → (j == k) ≡ true
      → left_by m k (es ++ Commit task j payload ∷ []) ≡ given payload
  left_new task j payload sending here =
      let all : List Entry = es ++ Commit task j payload ∷ [] in
      let paid : option_map (payload_of all) (ready m k all) ≡ Some payload =
      ap (option_map (payload_of all)) (ready-new k es (Commit task j payload) m sending here) ∙ ap Some
      (payload_of-next es task j payload) in
      let waits : is_some (pending_commit k all) ≡ true = ap is_some (pending-new k es (Commit task j payload) here) in
      λ i. record { payload = paid i; pending = waits i }

  -- an entry that neither sends nor withdraws the last commit
  left_same : (e : Entry) → is_commit_on k e ≡ false → ((number : ℕ) → last_commit k es ≡ Some number
      → sends number e ≡ false)
      → ((number : ℕ) → last_commit k es ≡ Some number → takes_back number e ≡ false)
      → left_by m k (es ++ e ∷ []) ≡ left_by m k es
  left_same e off unsent untaken =
      let paid : option_map (payload_of (es ++ e ∷ [])) (ready m k (es ++ e ∷ [])) ≡ option_map (payload_of es)
      (ready m k es) =
      ap (option_map (payload_of (es ++ e ∷ []))) (ready-same k es e off m unsent untaken) ∙ ready_paid e in
      let waits : is_some (pending_commit k (es ++ e ∷ [])) ≡ is_some (pending_commit k es) =
      ap is_some (pending-same k es e off (λ number last. neither (sends number e) (takes_back number e)
      (unsent number last) (untaken number last))) in
      λ i. record { payload = paid i; pending = waits i }
    where
      neither : (p q : Bool) → p ≡ false → q ≡ false → (p || q) ≡ false
      neither false q e f = f
      neither true q e f = differ refl e

  -- a withdraw on the buffer
  left_withdrawn : (task j : ℕ) (of : Option ℕ) → of ≡ pending_commit k es
      → left_by m k (es ++ Withdraw task j of ∷ []) ≡ taken_back (left_by m k es)
  left_withdrawn task j None is =
      left_same (Withdraw task j None) refl (λ number last. refl) (λ number last. refl) ∙ ap
      (λ (o : Option ℕ). cond (is_some o) empty (left_by m k es)) is
  left_withdrawn task j (Some number) is =
      let all : List Entry = es ++ Withdraw task j (Some number) ∷ [] in
      let taken : takes_back number (Withdraw task j (Some number)) ≡ true = eq-eqb number number refl in
      let paid : option_map (payload_of all) (ready m k all) ≡ None =
      ap (option_map (payload_of all)) (ready-taken k es (Withdraw task j (Some number)) refl m number (λ i. refl)
      (sym is) taken) in
      let waits : is_some (pending_commit k all) ≡ false =
      ap is_some (ready-taken k es (Withdraw task j (Some number)) refl mode.Event number (λ i. refl) (sym is) taken) in
      (λ i. record { payload = paid i; pending = waits i }) ∙ ap
      (λ (o : Option ℕ). cond (is_some o) empty (left_by m k es)) is

or_first : (p q : Bool) → p ≡ true → (p || q) ≡ true
or_first true q e = refl
or_first false q e = differ e refl

module _ (k : ℕ) (es : List Entry) (w : Opportunity) (x y : Offered) where
  sent_gone : (m : Mode) → is_receive m ≡ false → ((number : ℕ) → ready m k es ≡ Some number
      → sends number (Fetch w x y) ≡ true) → pending_commit k (es ++ Fetch w x y ∷ []) ≡ None
  sent_gone m sending sent = pending-gone k es (Fetch w x y) refl
      (λ number is. or_first (sends number (Fetch w x y)) false
      (sent number (pending_is_ready m k number es sending is)))

  -- a fetch that sends the ready commit, and no other last commit
  left_sent : (m : Mode) → is_receive m ≡ false → ((number : ℕ) → ready m k es ≡ Some number
      → sends number (Fetch w x y) ≡ true)
      → ((number : ℕ) → last_commit k es ≡ Some number → sends number (Fetch w x y) ≡ true → ready m k es ≡ Some number)
      → left_by m k (es ++ Fetch w x y ∷ []) ≡ record {
        payload =
            cond (is_event m) None (option_map (payload_of es) (ready m k es));
        pending = false;
      }
  left_sent mode.Event sending sent is_ready =
      let gone = sent_gone mode.Event sending sent in
      λ i. record { payload = option_map (payload_of (es ++ Fetch w x y ∷ [])) (gone i); pending = is_some (gone i) }
  left_sent mode.State sending sent is_ready =
      let gone = sent_gone mode.State sending sent in
      let held : held_commit k (es ++ Fetch w x y ∷ []) ≡ held_commit k es =
      held-other k es (Fetch w x y) refl (λ number last. refl)
      (λ number last out. (held_is k es number (is_ready number last out)).1) in
      let paid = ap (option_map (payload_of (es ++ Fetch w x y ∷ []))) held ∙ ready_paid mode.State k es
      (Fetch w x y) in
      λ i. record { payload = paid i; pending = is_some (gone i) }
  left_sent mode.Receive sending sent is_ready = absurd (let none : ⊥ = cc in none)

-- ---- the account

left_after-append : (b : Buffer) (k : ℕ) (now : Left) (xs ys : List Kept)
    → left_after b k now (xs ++ ys) ≡ left_after b k (left_after b k now xs) ys
left_after-append b k now [] ys = refl
left_after-append b k now (commits j payload ∷ xs) ys = left_after-append b k (cond (j == k) (given payload) now) xs ys
left_after-append b k now (withdraws j ∷ xs) ys = left_after-append b k (cond (j == k) (taken_back now) now) xs ys
left_after-append b k now (turns cycle ∷ xs) ys = left_after-append b k (cond (is_turn_of b cycle) (sent_out b now) now)
    xs ys

module _ (plan : Plan) (slot k : ℕ) (b : Buffer) (at : buffer_at plan k ≡ Some b)
    (of_slot : is_buffer_of slot (Some b) ≡ true) (sends_it : is_receive b.mode ≡ false) where
  -- A window of the slot in a cycle that the buffer admits sends the ready commit, and no other last commit. Any other
  -- window doesn't send the last commit.
  abbrev pub Takes : Bool → List Entry → Entry → Type 0
  Takes true before e =
      ((number : ℕ) → ready b.mode k before ≡ Some number → sends number e ≡ true)
      × ((number : ℕ) → last_commit k before ≡ Some number → sends number e ≡ true
      → ready b.mode k before ≡ Some number)
  Takes false before e = (number : ℕ) → last_commit k before ≡ Some number → sends number e ≡ false

  abbrev pub IsTaking : List Entry → Entry → Type 0
  IsTaking before (Commit task j payload) = Unit {0}
  IsTaking before (Withdraw task j of) = of ≡ pending_commit j before
  IsTaking before (Read task j from) = Unit {0}
  IsTaking before (Pop task from) = Unit {0}
  IsTaking before (Fetch w x y) = Takes (is_window_of slot w && is_turn_of b (run_cycle (before ++ Fetch w x y ∷ [])))
      before (Fetch w x y)
  IsTaking before (Observe number x y) = Unit {0}

  abbrev pub IsEven : List Entry → Type 0
  IsEven es = left_after b k empty (account plan slot es) ≡ left_by b.mode k es

  more : (es : List Entry) (e : Entry) → left_after b k empty (account plan slot (es ++ e ∷ [])) ≡ left_after b k
      (left_after b k empty (account plan slot es)) (kept_at plan slot es e)
  more es e = ap (left_after b k empty) (each_after-snoc (kept_at plan slot) es e) ∙ left_after-append b k empty
      (account plan slot es) (kept_at plan slot es e)

  -- the buffer is for the slot
  known : (j : ℕ) → (j == k) ≡ true → is_buffer_of slot (buffer_at plan j) ≡ true
  known j here = ap (λ (i : ℕ). is_buffer_of slot (buffer_at plan i)) (eqb-true j k here) ∙ ap (is_buffer_of slot) at
      ∙ of_slot

  -- the kept entries of other buffers change nothing
  other_kept : (t : Bool) (one : Kept) (now : Left) → left_after b k now (one ∷ []) ≡ now
      → left_after b k now (cond t (one ∷ []) []) ≡ now
  other_kept true one now is = is
  other_kept false one now is = refl

  commit_even : (es : List Entry) (task j : ℕ) (payload : List ℕ) (mine : Bool) → (j == k) ≡ mine → IsEven es
      → IsEven (es ++ Commit task j payload ∷ [])
  commit_even es task j payload true here even =
      more es (Commit task j payload)
      ∙ ap (λ (t : Bool). left_after b k (left_after b k empty (account plan slot es))
      (cond t (commits j payload ∷ []) [])) (known j here)
      ∙ ap (λ (t : Bool). cond t (given payload) (left_after b k empty (account plan slot es))) here
      ∙ sym (left_new b.mode k es task j payload sends_it here)
  commit_even es task j payload false here even =
      let now : Left = left_after b k empty (account plan slot es) in
      more es (Commit task j payload)
      ∙ other_kept (is_buffer_of slot (buffer_at plan j)) (commits j payload) now
      (ap (λ (t : Bool). cond t (given payload) now) here)
      ∙ even
      ∙ sym (left_same b.mode k es (Commit task j payload) here (λ number last. refl) (λ number last. refl))

  -- a withdraw on another buffer doesn't withdraw a commit on this one
  not_taken : (es : List Entry) (task j number : ℕ) (of : Option ℕ) (taken : Bool)
      → takes_back number (Withdraw task j of) ≡ taken → of ≡ pending_commit j es → (j == k) ≡ false
      → last_commit k es ≡ Some number → taken ≡ false
  not_taken es task j number of false is found other last = refl
  not_taken es task j number None true is found other last = absurd (let none : ⊥ = cc in none)
  not_taken es task j number (Some i) true is found other last =
      let same : i ≡ number = eqb-true i number is in
      let theirs : last_commit j es ≡ Some number = (pending_is j es number (sym found ∙ ap Some same)).0 in
      differ (eq-eqb j k (one_buffer es j k number theirs last)) other

  withdraw_even : (es : List Entry) (task j : ℕ) (of : Option ℕ) (mine : Bool) → (j == k) ≡ mine
      → of ≡ pending_commit j es → IsEven es → IsEven (es ++ Withdraw task j of ∷ [])
  withdraw_even es task j of true here found even =
      more es (Withdraw task j of)
      ∙ ap (λ (t : Bool). left_after b k (left_after b k empty (account plan slot es)) (cond t (withdraws j ∷ []) []))
      (known j here)
      ∙ ap (λ (t : Bool). cond t (taken_back (left_after b k empty (account plan slot es)))
      (left_after b k empty (account plan slot es))) here
      ∙ ap taken_back even
      ∙ sym (left_withdrawn b.mode k es task j of (found ∙ ap (λ (i : ℕ). pending_commit i es) (eqb-true j k here)))
  withdraw_even es task j of false here found even =
      let now : Left = left_after b k empty (account plan slot es) in
      more es (Withdraw task j of)
      ∙ other_kept (is_buffer_of slot (buffer_at plan j)) (withdraws j) now
      (ap (λ (t : Bool). cond t (taken_back now) now) here)
      ∙ even
      ∙ sym (left_same b.mode k es (Withdraw task j of) refl (λ number last. refl)
      (λ number last. not_taken es task j number of (takes_back number (Withdraw task j of)) refl found here last))

  turn_kept : (t takes : Bool) (cycle : ℕ) (now : Left) → is_turn_of b cycle ≡ takes
      → left_after b k now (cond t (turns cycle ∷ []) []) ≡ cond (t && takes) (sent_out b now) now
  turn_kept true takes cycle now e = ap (λ (m : Bool). cond m (sent_out b now) now) e
  turn_kept false takes cycle now e = refl

  fetch_even : (es : List Entry) (w : Opportunity) (x y : Offered) (takes : Bool) → Takes takes es (Fetch w x y)
      → IsEven es
      → cond takes (sent_out b (left_after b k empty (account plan slot es)))
      (left_after b k empty (account plan slot es)) ≡ left_by b.mode k (es ++ Fetch w x y ∷ [])
  fetch_even es w x y true t even = ap (sent_out b) even ∙ sym (left_sent k es w x y b.mode sends_it t.0 t.1)
  fetch_even es w x y false t even = even ∙ sym (left_same b.mode k es (Fetch w x y) refl t (λ number last. refl))

  -- an entry that isn't kept, and changes nothing
  same_even : (es : List Entry) (e : Entry) → kept_at plan slot es e ≡ [] → is_commit_on k e ≡ false
      → ((number : ℕ) → sends number e ≡ false) → ((number : ℕ) → takes_back number e ≡ false)
      → IsEven es → IsEven (es ++ e ∷ [])
  same_even es e unkept off unsent untaken even =
      more es e ∙ ap (left_after b k (left_after b k empty (account plan slot es))) unkept ∙ even
      ∙ sym (left_same b.mode k es e off (λ number last. unsent number) (λ number last. untaken number))

  even_step : (es : List Entry) (e : Entry) → IsEven es → IsTaking es e → IsEven (es ++ e ∷ [])
  even_step es (Commit task j payload) even t = commit_even es task j payload (j == k) refl even
  even_step es (Withdraw task j of) even t = withdraw_even es task j of (j == k) refl t even
  even_step es (Read task j from) even t = same_even es (Read task j from) refl refl (λ number. refl) (λ number. refl)
      even
  even_step es (Pop task from) even t = same_even es (Pop task from) refl refl (λ number. refl) (λ number. refl) even
  even_step es (Observe n x y) even t = same_even es (Observe n x y) refl refl (λ number. refl) (λ number. refl) even
  even_step es (Fetch w x y) even t =
      let cycle = run_cycle (es ++ Fetch w x y ∷ []) in
      more es (Fetch w x y)
      ∙ turn_kept (is_window_of slot w) (is_turn_of b cycle) cycle (left_after b k empty (account plan slot es)) refl
      ∙ fetch_even es w x y (is_window_of slot w && is_turn_of b cycle) t even

  start : IsEven []
  unfolding each_after
  start = sym (left_none b.mode k)

  even_all : (es : List Entry) → AllAfter IsTaking [] es → IsEven es
  even_all es all = AllAfter-induction IsTaking IsEven [] es start even_step all

  -- the remainder of the account is the payload of the commit that the buffer has ready
  pub left_over_is : (es : List Entry) → AllAfter IsTaking [] es
      → left_over b k (account plan slot es) ≡ option_map (payload_of es) (ready b.mode k es)
  left_over_is es all = ap (λ (l : Left). l.payload) (even_all es all)
