-- What happens to a commit in a journal: the lines of the log, the fate and the sendings.
use Rattle.std.proofs.Common.{◌≡◌, ◌≤◌, ◌<◌, ℕ, zero, suc, ◌+◌, Bool, true, false, cond, ◌||◌, List, [], ◌∷◌, ◌++◌}
use Rattle.std.proofs.Common.{length}
use Rattle.std.proofs.Common.{take, drop, Option, Some, None, refl, sym, ap, ap₂, subst, ◌∙◌, append_assoc, append-nil}
use Rattle.std.proofs.Common.{arith, eq-eqb}
use Rattle.std.specs.Prelude.{◌==◌, codes, slice_get, IfSome, IsSomeAnd}
use Rattle.std.specs.List.{flat_map}
use Rattle.std.proofs.lemmas.Bool.{ne_eqb, eqb-true}
use Rattle.std.proofs.lemmas.Grind.{flat_map-append}
use Rattle.fr_core.proofs.ReadyLemmas.{pending-new, pending-same}
use Rattle.fr_journal.specs.Cycles.{run_cycle}
use Rattle.fr_core.specs.Worlds.{WorldState}
use Rattle.fr_interface.specs.State.{State, IsLegalInterface}
use Rattle.fr_journal.proofs.HeldCommitLemmas.{pending_is}
use Rattle.fr_journal.proofs.LastCommitLemmas.{last_commit-there, slice_get-front, IsCommitAt}
use Rattle.fr_journal.specs.declared.entry.Entry.TheVariants.{Commit, Withdraw, Read, Pop, Fetch, Observe}
use Rattle.fr_journal.specs.declared.entry.Offered.{Offered}
use Rattle.fr_journal.specs.declared.entry.Offered.TheVariants.{Nothing, Null, Data}
use Rattle.fr_journal.specs.Fate.{is_commit_on, is_data_of, last_commit, pending_commit, sends, takes_back}
use Rattle.fr_journal.specs.Forms.{Entry}
use Rattle.fr_showing.proofs.FateLemmas.{commit_within, decided, pending_then, same_then}
use Rattle.fr_showing.proofs.GoingLemmas.{both, here, nothing_left}
use Rattle.fr_showing.specs.CommitText.{entries_at, Committed}
use Rattle.fr_showing.specs.declared.fates.Became.{Became}
use Rattle.fr_showing.specs.declared.fates.Became.TheVariants.{Sent, Withdrawn, Overwritten, Pending}
use Rattle.fr_showing.specs.declared.fates.Sending.{Sending}
use Rattle.fr_showing.specs.Fates.{became, became_in, sending_if, sendings, sendings_by}
use Rattle.fr_journal.specs.Cycles.{cycles_of}
use Rattle.fr_showing.specs.FateSteps.{became_with, is_pending}
use Rattle.fr_slots.specs.declared.channel.Channel.{Channel}
use Rattle.fr_slots.specs.declared.channel.Channel.TheVariants.{A, B}
use Rattle.fr_slots.specs.History.{each_after}
use Rattle.fr_slots.specs.Windows.{Opportunity}
use Rattle.fr_streaming.specs.CommitLaws.{ended_by, fate_among, handed_by, happenings, happenings_after, happenings_by}
use Rattle.fr_streaming.specs.CommitLaws.{lines_of, makes, overwrites, sending_of, withdraws, Happening}
use Rattle.fr_streaming.specs.CommitLog.{commit_after, commit_text, ended_lines, entry_lines, node_lines, offer_lines}
use Rattle.fr_streaming.specs.CommitLog.{sending}

-- ---- the lines

module _ (w : WorldState) (node : ℕ) where
  commit_lines : (o : Option ℕ) (cycle entry : ℕ) (c : Committed)
      → ended_lines (codes "overwritten") node o cycle entry ++ commit_text c ∷ []
      ≡ flat_map (lines_of w node) (ended_by overwrites o cycle entry ++ makes c ∷ [])
  commit_lines None cycle entry c = refl
  commit_lines (Some of) cycle entry c = refl

  withdraw_lines : (o : Option ℕ) (cycle entry : ℕ)
      → ended_lines (codes "withdrawn") node o cycle entry
      ≡ flat_map (lines_of w node) (ended_by withdraws o cycle entry)
  withdraw_lines None cycle entry = refl
  withdraw_lines (Some of) cycle entry = refl

  handed_lines : (o : Offered) (s : Sending)
      → offer_lines w node o s ≡ flat_map (lines_of w node) (handed_by o s)
  handed_lines Nothing s = refl
  handed_lines Null s = refl
  handed_lines (Data commit) s = sym (append-nil (offer_lines w node (Data commit) s))

  entry_spelled : (before : List Entry) (e : Entry)
      → entry_lines w node before e ≡ flat_map (lines_of w node) (happenings_by node before e)
  entry_spelled before (Commit task buffer payload) =
      commit_lines (pending_commit buffer before) (cycles_of before) (length before)
      (commit_after node before buffer task payload)
  entry_spelled before (Withdraw task buffer of) = withdraw_lines of (cycles_of before) (length before)
  entry_spelled before (Read task buffer from) = refl
  entry_spelled before (Pop task from) = refl
  entry_spelled before (Fetch window a b) =
      let cycle : ℕ = run_cycle (before ++ Fetch window a b ∷ []) in
      ap₂ (λ (xs ys : List (List ℕ)). xs ++ ys) (handed_lines a (sending cycle window A))
      (handed_lines b (sending cycle window B))
      ∙ sym (flat_map-append (lines_of w node) (handed_by a (sending cycle window A))
      (handed_by b (sending cycle window B)))
  entry_spelled before (Observe window a b) = refl

  all_spelled : (before es : List Entry)
      → each_after (entry_lines w node) before es
      ≡ flat_map (lines_of w node) (each_after (happenings_by node) before es)
  unfolding each_after
  all_spelled before [] = refl
  all_spelled before (e ∷ es) =
      ap₂ (λ (xs ys : List (List ℕ)). xs ++ ys) (entry_spelled before e) (all_spelled (before ++ e ∷ []) es)
      ∙ sym (flat_map-append (lines_of w node) (happenings_by node before e)
      (each_after (happenings_by node) (before ++ e ∷ []) es))

pub log_spelled : (w : WorldState) (n : ℕ)
    → node_lines w n ≡ flat_map (lines_of w n) (happenings n (entries_at w n))
log_spelled w n = all_spelled w n [] (entries_at w n)

-- ---- the sendings

module _ (node k : ℕ) where
  unsent : (ends : ℕ → ℕ → ℕ → Happening) → ((of cycle entry : ℕ) → sending_of k (ends of cycle entry) ≡ [])
      → (o : Option ℕ) (cycle entry : ℕ) (rest : List Happening)
      → flat_map (sending_of k) rest ≡ flat_map (sending_of k) (ended_by ends o cycle entry ++ rest)
  unsent ends none None cycle entry rest = refl
  unsent ends none (Some of) cycle entry rest =
      ap (λ (xs : List Sending). xs ++ flat_map (sending_of k) rest) (sym (none of cycle entry))

  sent_by : (o : Offered) (cycle : ℕ) (window : Opportunity) (channel : Channel)
      → sending_if k cycle window channel o ≡ flat_map (sending_of k) (handed_by o (sending cycle window channel))
  sent_by Nothing cycle window channel = refl
  sent_by Null cycle window channel = refl
  sent_by (Data commit) cycle window channel = sym (append-nil (sending_if k cycle window channel (Data commit)))

  entry_sends : (before : List Entry) (e : Entry)
      → sendings_by k before e ≡ flat_map (sending_of k) (happenings_by node before e)
  entry_sends before (Commit task buffer payload) =
      unsent overwrites (λ of cycle entry. refl) (pending_commit buffer before) (cycles_of before) (length before)
      (makes (commit_after node before buffer task payload) ∷ [])
  entry_sends before (Withdraw task buffer of) =
      unsent withdraws (λ from cycle entry. refl) of (cycles_of before) (length before) []
      ∙ ap (flat_map (sending_of k)) (append-nil (ended_by withdraws of (cycles_of before) (length before)))
  entry_sends before (Read task buffer from) = refl
  entry_sends before (Pop task from) = refl
  entry_sends before (Fetch window a b) =
      let cycle : ℕ = run_cycle (before ++ Fetch window a b ∷ []) in
      ap₂ (λ (xs ys : List Sending). xs ++ ys) (sent_by a cycle window A) (sent_by b cycle window B)
      ∙ sym (flat_map-append (sending_of k) (handed_by a (sending cycle window A))
      (handed_by b (sending cycle window B)))
  entry_sends before (Observe window a b) = refl

  all_sent : (before es : List Entry)
      → each_after (sendings_by k) before es
      ≡ flat_map (sending_of k) (each_after (happenings_by node) before es)
  unfolding each_after
  all_sent before [] = refl
  all_sent before (e ∷ es) =
      ap₂ (λ (xs ys : List Sending). xs ++ ys) (entry_sends before e) (all_sent (before ++ e ∷ []) es)
      ∙ sym (flat_map-append (sending_of k) (happenings_by node before e)
      (each_after (happenings_by node) (before ++ e ∷ []) es))

pub log_sends : (node commit : ℕ) (entries : List Entry)
    → sendings entries commit ≡ flat_map (sending_of commit) (happenings_after node entries commit)
log_sends node commit entries = all_sent node commit (take (commit + 1) entries) (drop (commit + 1) entries)

-- ---- the fate

-- the fate by an entry, or else the later one
abbrev fate_or : Became → Became → Became
fate_or Sent later = Sent
fate_or (Withdrawn cycle entry) later = Withdrawn cycle entry
fate_or (Overwritten cycle entry) later = Overwritten cycle entry
fate_or Pending later = later

module _ (node k buffer : ℕ) (before : List Entry) (there : IsCommitAt buffer before k)
    (pending : pending_commit buffer before ≡ Some k) where
  same_buffer : (e : Entry) (other : ℕ) → is_commit_on buffer e ≡ true → is_commit_on other e ≡ true → other ≡ buffer
  same_buffer (Commit task b payload) other on of_other =
      sym (eqb-true b other of_other) ∙ eqb-true b buffer on
  same_buffer (Withdraw task b of) other on of_other = absurd (let none : ⊥ = cc in none)
  same_buffer (Read task b from) other on of_other = absurd (let none : ⊥ = cc in none)
  same_buffer (Pop task from) other on of_other = absurd (let none : ⊥ = cc in none)
  same_buffer (Fetch window a b) other on of_other = absurd (let none : ⊥ = cc in none)
  same_buffer (Observe window a b) other on of_other = absurd (let none : ⊥ = cc in none)

  both_on : (o : Option Entry) (other : ℕ) → IsSomeAnd o (λ e. is_commit_on buffer e ≡ true)
      → IsSomeAnd o (λ e. is_commit_on other e ≡ true) → other ≡ buffer
  both_on None other on of_other = absurd on
  both_on (Some e) other on of_other = same_buffer e other on of_other

  -- the pending commit of another buffer is another one
  other_commit : (other c : ℕ) → (other ≡ buffer → ⊥) → pending_commit other before ≡ Some c → c ≡ k → ⊥
  other_commit other c different is same =
      let last : last_commit other before ≡ Some c = (pending_is other before c is).0 in
      let at : IsCommitAt other before c =
      subst (λ (o : Option ℕ). IfSome o (λ j. IsCommitAt other before j)) last (last_commit-there other before) in
      different (both_on (slice_get before k) other there (subst (IsCommitAt other before) same at))

  abbrev cycle : ℕ
  cycle = cycles_of before

  abbrev number : ℕ
  number = length before

  other_ended : (other : ℕ) (o : Option ℕ) (rest : List Happening) → (other ≡ buffer → ⊥)
      → pending_commit other before ≡ o
      → fate_among k (ended_by overwrites o cycle number ++ rest) ≡ fate_among k rest
  other_ended other None rest different is = refl
  other_ended other (Some c) rest different is =
      ap (λ (t : Bool). cond t (Overwritten cycle number) (fate_among k rest))
      (ne_eqb c k (other_commit other c different is))

  commit_decides : (b : ℕ) (c : Committed) (rest : List Happening) (t : Bool) → (b == buffer) ≡ t
      → fate_among k ((ended_by overwrites (pending_commit b before) cycle number ++ makes c ∷ []) ++ rest)
      ≡ fate_or (cond t (Overwritten cycle number) Pending) (fate_among k rest)
  commit_decides b c rest true is =
      let same : b ≡ buffer = eqb-true b buffer is in
      ap (λ (o : Option ℕ). fate_among k ((ended_by overwrites o cycle number ++ makes c ∷ []) ++ rest))
      (ap (λ (x : ℕ). pending_commit x before) same ∙ pending)
      ∙ ap (λ (t : Bool). cond t (Overwritten cycle number) (fate_among k rest)) (eq-eqb k k refl)
  commit_decides b c rest false is =
      ap (fate_among k) (append_assoc (ended_by overwrites (pending_commit b before) cycle number) (makes c ∷ []) rest)
      ∙ other_ended b (pending_commit b before) (makes c ∷ rest)
      (λ same. let yes : (b == buffer) ≡ true = eq-eqb b buffer same in let none : ⊥ = cc in none) refl

  withdraw_decides : (o : Option ℕ) (rest : List Happening) (t : Bool)
      → takes_back k (Withdraw 0 0 o) ≡ t
      → fate_among k (ended_by withdraws o cycle number ++ rest)
      ≡ fate_or (cond t (Withdrawn cycle number) Pending) (fate_among k rest)
  withdraw_decides None rest true is = absurd (let none : ⊥ = cc in none)
  withdraw_decides None rest false is = refl
  withdraw_decides (Some c) rest true is =
      ap (λ (t : Bool). cond t (Withdrawn cycle number) (fate_among k rest)) is
  withdraw_decides (Some c) rest false is =
      ap (λ (t : Bool). cond t (Withdrawn cycle number) (fate_among k rest)) is

  handed_decides : (o : Offered) (s : Sending) (rest : List Happening)
      → fate_among k (handed_by o s ++ rest) ≡ cond (is_data_of k o) Sent (fate_among k rest)
  handed_decides Nothing s rest = refl
  handed_decides Null s rest = refl
  handed_decides (Data c) s rest = refl

  twice : (x y : Bool) (later : Became) → cond x Sent (cond y Sent later) ≡ fate_or (cond (x || y) Sent Pending) later
  twice true y later = refl
  twice false true later = refl
  twice false false later = refl

  -- what the entry does decides as the entry does
  entry_decides : (e : Entry) (rest : List Happening)
      → fate_among k (happenings_by node before e ++ rest)
      ≡ fate_or (became_with buffer k cycle number e) (fate_among k rest)
  entry_decides (Commit task b payload) rest =
      commit_decides b (commit_after node before b task payload) rest (b == buffer) refl
  entry_decides (Withdraw task b of) rest = withdraw_decides of rest (takes_back k (Withdraw 0 0 of)) refl
  entry_decides (Read task b from) rest = refl
  entry_decides (Pop task from) rest = refl
  entry_decides (Fetch window a b) rest =
      let now : ℕ = run_cycle (before ++ Fetch window a b ∷ []) in
      let on_a = handed_by a (sending now window A) in
      let on_b = handed_by b (sending now window B) in
      ap (fate_among k) (append_assoc on_a on_b rest)
      ∙ handed_decides a (sending now window A) (on_b ++ rest)
      ∙ ap (λ (later : Became). cond (is_data_of k a) Sent later) (handed_decides b (sending now window B) rest)
      ∙ twice (is_data_of k a) (is_data_of k b) (fate_among k rest)
  entry_decides (Observe window a b) rest = refl

  -- a commit that stays pending is the pending one after the entry
  not_decided : (e : Entry) (s t u : Bool) → sends k e ≡ s → takes_back k e ≡ t → is_commit_on buffer e ≡ u
      → is_pending (cond s Sent (cond t (Withdrawn cycle number) (cond u (Overwritten cycle number) Pending))) ≡ true
      → pending_commit buffer (before ++ e ∷ []) ≡ Some k
  not_decided e true t u s_is t_is u_is still = absurd (let none : ⊥ = cc in none)
  not_decided e false true u s_is t_is u_is still = absurd (let none : ⊥ = cc in none)
  not_decided e false false true s_is t_is u_is still = absurd (let none : ⊥ = cc in none)
  not_decided e false false false s_is t_is u_is still =
      pending-same buffer before e u_is (λ j last.
      let last_k : last_commit buffer before ≡ Some k = (pending_is buffer before k pending).0 in
      let same : k ≡ j = cc in
      subst (λ (i : ℕ). (sends i e || takes_back i e) ≡ false) same
      (ap₂ (λ (x y : Bool). x || y) s_is t_is))
      ∙ pending

  still_pending : (e : Entry) → is_pending (became_with buffer k cycle number e) ≡ true
      → pending_commit buffer (before ++ e ∷ []) ≡ Some k
  still_pending e still =
      not_decided e (sends k e) (takes_back k e) (is_commit_on buffer e) refl refl refl still

difference : (a b : ℕ) → a ≤ b → (c : ℕ) × (a + c ≡ b)
difference zero b le = (b, omega arith)
difference (suc a) zero le = absurd (let none : ⊥ = omega (arith, le) in none)
difference (suc a) (suc b) le = let rest = difference a b (omega (arith, le)) in (rest.0, omega (arith, rest.1))

or_pending : (b later : Became) → is_pending b ≡ true → fate_or b later ≡ later
or_pending Sent later is = absurd (let none : ⊥ = cc in none)
or_pending (Withdrawn cycle entry) later is = absurd (let none : ⊥ = cc in none)
or_pending (Overwritten cycle entry) later is = absurd (let none : ⊥ = cc in none)
or_pending Pending later is = refl

or_decided : (b later : Became) → is_pending b ≡ false → fate_or b later ≡ b
or_decided Sent later is = refl
or_decided (Withdrawn cycle entry) later is = refl
or_decided (Overwritten cycle entry) later is = refl
or_decided Pending later is = absurd (let none : ⊥ = cc in none)

module _ (s : State) (node buffer k : ℕ) (legal : IsLegalInterface s) (there : IsCommitAt buffer s.entries k) where
  abbrev events_from : ℕ → List Happening
  events_from n = each_after (happenings_by node) (take n s.entries) (drop n s.entries)

  got : (xs : List Entry) (n : ℕ) → n < length xs → (e : Entry) × (slice_get xs n ≡ Some e)
  got [] n lt = absurd (let none : ⊥ = omega (arith, lt) in none)
  got (x ∷ xs) zero lt = (x, refl)
  got (x ∷ xs) (suc n) lt = got xs n (omega (arith, lt))

  events_here : (n : ℕ) (e : Entry) → slice_get s.entries n ≡ Some e
      → events_from n ≡ happenings_by node (take n s.entries) e ++ events_from (n + 1)
  unfolding each_after
  events_here n e is =
      let h = here s.entries n e is in
      ap (each_after (happenings_by node) (take n s.entries)) h.left
      ∙ ap (λ (l : List Entry). happenings_by node (take n s.entries) e
      ++ each_after (happenings_by node) l (drop (n + 1) s.entries)) (sym h.passed)

  at_front : (n : ℕ) → k < length (take n s.entries) → IsCommitAt buffer (take n s.entries) k
  at_front n long =
      let same : slice_get s.entries k ≡ slice_get (take n s.entries) k =
      ap (λ (l : List Entry). slice_get l k) (sym (both s.entries n))
      ∙ slice_get-front (take n s.entries) (drop n s.entries) k long in
      subst (λ (o : Option Entry). IsSomeAnd o (λ e. is_commit_on buffer e ≡ true)) same there

  no_events : (n : ℕ) → drop n s.entries ≡ [] → events_from n ≡ []
  unfolding each_after
  no_events n none = ap (each_after (happenings_by node) (take n s.entries)) none

  -- either the entry decides, or those after it
  by_fate : (n : ℕ) (e : Entry) (later : k < n) (is : slice_get s.entries n ≡ Some e)
      → fate_among k (events_from n)
      ≡ fate_or (became_with buffer k (cycles_of (take n s.entries)) n e) (fate_among k (events_from (n + 1)))
      → (t : Bool) → is_pending (became_with buffer k (cycles_of (take n s.entries)) n e) ≡ t
      → (t ≡ true → became_in buffer k (take (n + 1) s.entries) (drop (n + 1) s.entries)
      ≡ fate_among k (events_from (n + 1)))
      → became_in buffer k (take n s.entries) (drop n s.entries) ≡ fate_among k (events_from n)
  by_fate n e later is events true still rest =
      let cycle = cycles_of (take n s.entries) in
      same_then s buffer k legal there n e later is cycle still ∙ rest refl
      ∙ sym (events ∙ or_pending (became_with buffer k cycle n e) (fate_among k (events_from (n + 1))) still)
  by_fate n e later is events false found rest =
      let cycle = cycles_of (take n s.entries) in
      sym (decided s buffer k legal there n e later is cycle refl found)
      ∙ sym (events ∙ or_decided (became_with buffer k cycle n e) (fate_among k (events_from (n + 1))) found)

  along : (count n : ℕ) → n + count ≡ length s.entries → k < n → pending_commit buffer (take n s.entries) ≡ Some k
      → became_in buffer k (take n s.entries) (drop n s.entries) ≡ fate_among k (events_from n)
  along zero n all later pending =
      let none : drop n s.entries ≡ [] = nothing_left s.entries n (omega (arith, all)) in
      pending_then buffer k (take n s.entries) (drop n s.entries) none
      ∙ sym (ap (fate_among k) (no_events n none))
  along (suc count) n all later pending =
      let within : n < length s.entries = omega (arith, all) in
      let (e, is) = got s.entries n within in
      let h = here s.entries n e is in
      let long : k < length (take n s.entries) = omega (arith, later, h.place) in
      let at = at_front n long in
      let cycle : ℕ = cycles_of (take n s.entries) in
      let by_length : became_with buffer k cycle (length (take n s.entries)) e ≡ became_with buffer k cycle n e =
      ap (λ (i : ℕ). became_with buffer k cycle i e) h.place in
      let events : fate_among k (events_from n)
      ≡ fate_or (became_with buffer k cycle n e) (fate_among k (events_from (n + 1))) =
      ap (fate_among k) (events_here n e is)
      ∙ entry_decides node k buffer (take n s.entries) at pending e (events_from (n + 1))
      ∙ ap (λ (b : Became). fate_or b (fate_among k (events_from (n + 1)))) by_length in
      by_fate n e later is events (is_pending (became_with buffer k cycle n e)) refl (λ still.
      let next : pending_commit buffer (take (n + 1) s.entries) ≡ Some k =
      ap (pending_commit buffer) h.passed
      ∙ still_pending node k buffer (take n s.entries) at pending e (ap is_pending by_length ∙ still) in
      along count (n + 1) (omega (arith, all)) (omega (arith, later)) next)

  pub log_tells : became buffer s.entries k ≡ fate_among k (happenings_after node s.entries k)
  log_tells =
      let within : k < length s.entries = commit_within s.entries buffer k there in
      let (e, is) = got s.entries k within in
      let on : is_commit_on buffer e ≡ true =
      subst (λ (o : Option Entry). IsSomeAnd o (λ x. is_commit_on buffer x ≡ true)) is there in
      let h = here s.entries k e is in
      let pending : pending_commit buffer (take (k + 1) s.entries) ≡ Some k =
      ap (pending_commit buffer) h.passed ∙ pending-new buffer (take k s.entries) e on ∙ ap Some h.place in
      let split = difference (k + 1) (length s.entries) (omega (arith, within)) in
      along split.0 (k + 1) split.1 (omega arith) pending
