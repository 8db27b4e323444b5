-- The transmit buffers, with one more entry.
use Rattle.std.proofs.Common.{◌≡◌, ℕ, ◌+◌, ◌≤◌, ◌<◌, Bool, true, false, cond, eqb, List, [], ◌∷◌, ◌++◌, length, map}
use Rattle.std.proofs.Common.{Option, Some, None, refl, sym, ap, subst, ◌∙◌, arith, option_map, length-append, eq-eqb}
use Rattle.std.specs.Prelude.{count_by, IfSome, IsSomeAnd, is_some, slice_get}
use Rattle.std.specs.Option.{option_or}
use Rattle.std.proofs.lemmas.List.{append_assoc}
use Rattle.std.proofs.lemmas.Bool.{eqb-true}
use Rattle.std.proofs.lemmas.List.Sums.{sum_by-append}
use Rattle.fr_buffers.specs.declared.transmit.HeldCommit.{HeldCommit}
use Rattle.fr_buffers.specs.Transmitting.{Transmitter, new_transmitter, with_commit, offer_of, pending_of}
use Rattle.fr_buffers.specs.Transmitting.{emptied, after_withdraw}
use Rattle.fr_interface.specs.Known.{commit_of, transmitter_of, transmitters, change_at}
use Rattle.fr_interface.proofs.ChangeLemmas.{changed, change_each, each-same, each-mapped}
use Rattle.fr_journal.specs.Forms.{Entry}
use Rattle.fr_journal.specs.declared.entry.Entry.TheVariants.{Commit, Withdraw}
use Rattle.fr_journal.specs.declared.fate.Fate.{Fate}
use Rattle.fr_journal.specs.declared.fate.Fate.TheVariants.{Pending}
use Rattle.fr_journal.specs.declared.fate.Tally.{Tally}
use Rattle.fr_journal.specs.Fate.{is_commit_on, last_commit, sends, takes_back, is_number, fate_of, fates_from, fates}
use Rattle.fr_journal.specs.Fate.{is_sent, is_overwritten, is_pending, is_withdrawn}
use Rattle.fr_journal.specs.Fate.{tally_of, pending_commit, held_commit}
use Rattle.fr_journal.specs.Offers.{ready}
use Rattle.fr_journal.proofs.FateStepLemmas.{after_commit, after_other, fates_from-commit, fates_from-other, MarksLast}
use Rattle.fr_journal.proofs.FateStepLemmas.{LastStands, OnlyLast, marks_none, stands_unsent, marks_last_from}
use Rattle.fr_journal.proofs.HeldCommitLemmas.{pending_is, held-below, held-other, held-commit, held-taken}
use Rattle.fr_journal.proofs.HeldCommitLemmas.{held_pending-counts, same_entry, last_there, one_buffer}
use Rattle.fr_journal.proofs.LastCommitLemmas.{IsCommitAt, payload_of-front, payload_of-next, slice_get-next}
use Rattle.fr_journal.proofs.TallyLemmas.{fates_fill, after_commit-counts, sending-counts, withdrawing-counts}
use Rattle.fr_journal.proofs.TallyLemmas.{same_fates, pending-one}
use Rattle.fr_slots.specs.declared.plan.Buffer.{Buffer}
use Rattle.fr_slots.specs.declared.plan.Mode.{Mode}
use Rattle.fr_slots.specs.declared.plan.Mode.TheVariants as mode
use Rattle.fr_slots.specs.History.{last_after, AllAfter}
use Rattle.fr_slots.specs.Plans.{Plan}

-- ---- without entries

pub transmitter-none : (number : ℕ) (m : Mode) → transmitter_of [] number m ≡ new_transmitter m
unfolding last_after fates_from
transmitter-none number m = refl

pub transmitters-none : (plan : Plan) → map (λ (b : Buffer). new_transmitter b.mode) plan.buffers ≡ transmitters plan []
transmitters-none plan = each-mapped new_transmitter (transmitter_of []) 0 plan.buffers transmitter-none

-- ---- a commit on the buffer

abbrev tally_with : Tally → Tally
tally_with t = record {
  committed = t.committed + 1;
  sent = t.sent;
  overwritten = t.overwritten + t.pending;
  pending =
      1;
  withdrawn = t.withdrawn;
}

-- the counts of fates with one more fate
abbrev one_added : (Fate → Bool) → List Fate → ℕ → Type 0
one_added p fs n = count_by p (fs ++ Pending ∷ []) ≡ count_by p fs + n

added : (p : Fate → Bool) (fs : List Fate) → one_added p fs (cond (p Pending) 1 0)
added p fs = omega (arith, sum_by-append (λ f. cond (p f) 1 0) fs (Pending ∷ []))

tally-commit : (number : ℕ) (xs : List Entry) (e : Entry) → is_commit_on number e ≡ true → ((m : ℕ) → sends m e ≡ false)
    → ((m : ℕ) → takes_back m e ≡ false)
    → tally_with (tally_of number xs) ≡ tally_of number (xs ++ e ∷ [])
tally-commit number xs e on unsent untaken =
    let fs : List Fate = fates number xs in
    let gs : List Fate = fates number (xs ++ e ∷ []) in
    let hs : List Fate = map after_commit fs in
    let all : gs ≡ hs ++ Pending ∷ [] = fates_from-commit number 0 xs e on unsent untaken in
    let counts = after_commit-counts fs in
    let sent : count_by is_sent fs ≡ count_by is_sent gs = omega
    (arith, counts.sent_is, ap (count_by is_sent) all, added is_sent hs) in
    let withdrawn : count_by is_withdrawn fs ≡ count_by is_withdrawn gs =
    omega (arith, counts.withdrawn_is, ap (count_by is_withdrawn) all, added is_withdrawn hs) in
    let overwritten : count_by is_overwritten fs + count_by is_pending fs ≡ count_by is_overwritten gs =
    omega (arith, counts.overwritten_is, ap (count_by is_overwritten) all, added is_overwritten hs) in
    let pending : 1 ≡ count_by is_pending gs = omega (
      arith,
      counts.pending_is,
      ap (count_by is_pending) all,
      added is_pending hs,
    ) in
    let committed : length fs + 1 ≡ length gs = omega (
      arith,
      fates_fill fs,
      fates_fill gs,
      sent,
      overwritten,
      pending,
      withdrawn,
    ) in
    λ i. record {
      committed = committed i;
      sent = sent i;
      overwritten = overwritten i;
      pending = pending i;
      withdrawn =
          withdrawn i;
    }

-- ---- any other entry

-- the tally after the pending commit is sent, and after it is withdrawn
abbrev pub tally_sent : Tally → Tally
tally_sent x = record {
  committed = x.committed;
  sent = x.sent + x.pending;
  overwritten = x.overwritten;
  pending = 0;
  withdrawn = x.withdrawn;
}

abbrev pub tally_taken : Tally → Tally
tally_taken x = record {
  committed = x.committed;
  sent = x.sent;
  overwritten = x.overwritten;
  pending = 0;
  withdrawn =
      x.withdrawn + x.pending;
}

abbrev pub tally_after : Bool → Tally → Tally
tally_after t x = cond t (tally_sent x) x

-- An entry that isn't a commit on the buffer. Of the buffer's commits it sends the last one, withdraws it, or does
-- neither.
pub record IsOther (number : ℕ) (t u : Bool) (xs : List Entry) (e : Entry) : Type 0 where
  pub off : is_commit_on number e ≡ false
  pub sending : MarksLast number 0 t (λ m. sends m e) xs
  pub taking : MarksLast number 0 u (λ m. takes_back m e) xs
  pub stands : LastStands number 0 t xs

module _ (number : ℕ) (xs : List Entry) (e : Entry) where
  fates_other : (t u : Bool) → IsOther number t u xs e → fates number (xs ++ e ∷ []) ≡ map (after_other t u)
      (fates number xs)
  fates_other t u h = fates_from-other number 0 t u xs e h.off h.sending h.taking h.stands

  pub tally-sent : (u : Bool) → IsOther number true u xs e → tally_sent (tally_of number xs) ≡ tally_of number
      (xs ++ e ∷ [])
  tally-sent u h =
      let fs : List Fate = fates number xs in
      let gs : List Fate = fates number (xs ++ e ∷ []) in
      let all : gs ≡ map (after_other true u) fs = fates_other true u h in
      let counts = sending-counts u fs in
      let sent : count_by is_sent fs + count_by is_pending fs ≡ count_by is_sent gs =
      omega (arith, counts.sent_is, ap (count_by is_sent) all) in
      let withdrawn : count_by is_withdrawn fs ≡ count_by is_withdrawn gs =
      omega (arith, counts.withdrawn_is, ap (count_by is_withdrawn) all) in
      let overwritten : count_by is_overwritten fs ≡ count_by is_overwritten gs =
      omega (arith, counts.overwritten_is, ap (count_by is_overwritten) all) in
      let pending : 0 ≡ count_by is_pending gs = omega (arith, counts.pending_is, ap (count_by is_pending) all) in
      let committed : length fs ≡ length gs = omega (
        arith,
        fates_fill fs,
        fates_fill gs,
        sent,
        overwritten,
        pending,
        withdrawn,
      ) in
      λ i. record {
        committed = committed i;
        sent = sent i;
        overwritten = overwritten i;
        pending = pending i;
        withdrawn = withdrawn i;
      }

  pub tally-taken : IsOther number false true xs e → tally_taken (tally_of number xs) ≡ tally_of number (xs ++ e ∷ [])
  tally-taken h =
      let fs : List Fate = fates number xs in
      let gs : List Fate = fates number (xs ++ e ∷ []) in
      let all : gs ≡ map (after_other false true) fs = fates_other false true h in
      let counts = withdrawing-counts fs in
      let sent : count_by is_sent fs ≡ count_by is_sent gs = omega (arith, counts.sent_is, ap (count_by is_sent) all) in
      let withdrawn : count_by is_withdrawn fs + count_by is_pending fs ≡ count_by is_withdrawn gs =
      omega (arith, counts.withdrawn_is, ap (count_by is_withdrawn) all) in
      let overwritten : count_by is_overwritten fs ≡ count_by is_overwritten gs =
      omega (arith, counts.overwritten_is, ap (count_by is_overwritten) all) in
      let pending : 0 ≡ count_by is_pending gs = omega (arith, counts.pending_is, ap (count_by is_pending) all) in
      let committed : length fs ≡ length gs = omega (
        arith,
        fates_fill fs,
        fates_fill gs,
        sent,
        overwritten,
        pending,
        withdrawn,
      ) in
      λ i. record {
        committed = committed i;
        sent = sent i;
        overwritten = overwritten i;
        pending = pending i;
        withdrawn = withdrawn i;
      }

  tally-still : IsOther number false false xs e → tally_of number xs ≡ tally_of number (xs ++ e ∷ [])
  tally-still h =
      let all : fates number xs ≡ fates number (xs ++ e ∷ []) =
      sym (fates_other false false h ∙ same_fates (fates number xs)) in
      λ i. record {
        committed = length (all i);
        sent = count_by is_sent (all i);
        overwritten = count_by is_overwritten (all i);
        pending = count_by is_pending (all i);
        withdrawn = count_by is_withdrawn (all i);
      }

  pub tally-other : (t : Bool) → IsOther number t false xs e
      → tally_after t (tally_of number xs) ≡ tally_of number (xs ++ e ∷ [])
  tally-other true h = tally-sent false h
  tally-other false h = tally-still h

  -- the held commit is the same one, with the same payload
  pub same_commit : held_commit number (xs ++ e ∷ []) ≡ held_commit number xs
      → option_map (commit_of xs) (held_commit number xs) ≡ option_map (commit_of (xs ++ e ∷ []))
      (held_commit number (xs ++ e ∷ []))
  same_commit same = kept (held_commit number xs) (held-below number xs) ∙ ap (option_map (commit_of (xs ++ e ∷ [])))
      (sym same)
    where
      kept : (o : Option ℕ) → IfSome o (λ k. k < length xs) → option_map (commit_of xs) o ≡ option_map
          (commit_of (xs ++ e ∷ [])) o
      kept None h = refl
      kept (Some k) h = λ i. Some (record { entry = k; payload = sym (payload_of-front xs e k h) i })

-- an entry that neither is a commit on the buffer, nor sends a commit, nor withdraws its last one
pub transmitter-other : (number : ℕ) (m : Mode) (xs : List Entry) (e : Entry) → is_commit_on number e ≡ false
    → ((k : ℕ) → sends k e ≡ false)
    → MarksLast number 0 false (λ k. takes_back k e) xs → ((k : ℕ) → last_commit number xs ≡ Some k
    → takes_back k e ≡ false)
    → transmitter_of xs number m ≡ transmitter_of (xs ++ e ∷ []) number m
transmitter-other number m xs e off unsent untaken last =
    let h : IsOther number false false xs e = record {
      off = off;
      sending =
          marks_none number 0 (λ k. sends k e) xs unsent;
      taking = untaken;
      stands = stands_unsent number 0 xs;
    } in
    let held : held_commit number (xs ++ e ∷ []) ≡ held_commit number xs =
    held-other number xs e off last (λ k _ sent. let never : false ≡ true = sym (unsent k) ∙ sent in absurd cc) in
    let tally : tally_of number xs ≡ tally_of number (xs ++ e ∷ []) = tally-other number xs e false h in
    λ i. record { mode = m; last = same_commit number xs e held i; tally = tally i }

pub transmitter-still : (number : ℕ) (m : Mode) (xs : List Entry) (e : Entry) → is_commit_on number e ≡ false
    → ((k : ℕ) → sends k e ≡ false) → ((k : ℕ) → takes_back k e ≡ false)
    → transmitter_of xs number m ≡ transmitter_of (xs ++ e ∷ []) number m
transmitter-still number m xs e off unsent untaken = transmitter-other number m xs e off unsent
    (marks_none number 0 (λ k. takes_back k e) xs untaken) (λ k _. untaken k)

-- ---- all buffers

pub transmitters-other : (plan : Plan) (xs : List Entry) (e : Entry) → ((number : ℕ) → is_commit_on number e ≡ false)
    → ((k : ℕ) → sends k e ≡ false) → ((k : ℕ) → takes_back k e ≡ false)
    → transmitters plan (xs ++ e ∷ []) ≡ transmitters plan xs
transmitters-other plan xs e off unsent untaken =
    each-same (transmitter_of (xs ++ e ∷ [])) (transmitter_of xs) 0 plan.buffers
    (λ number m. sym (transmitter-still number m xs e (off number) unsent untaken))

abbrev committed_now : ℕ → List ℕ → HeldCommit
committed_now entry payload = record { entry = entry; payload = payload }

same_number : (n : ℕ) → eqb n n ≡ true
same_number n = eq-eqb n n refl

swapped : (m n : ℕ) → eqb m n ≡ false → eqb n m ≡ false
swapped m n other = by_test (eqb n m) refl
  where
    by_test : (t : Bool) → eqb n m ≡ t → eqb n m ≡ false
    by_test true e =
        let same : eqb m n ≡ true = ap (λ (k : ℕ). eqb k n) (sym (eqb-true n m e)) ∙ same_number n in
        absurd cc
    by_test false e = e

module _ (xs : List Entry) (task buffer : ℕ) (payload : List ℕ) where
  on_buffer : (number : ℕ) (m : Mode) → number ≡ buffer → with_commit (transmitter_of xs number m)
      (committed_now (length xs) payload) ≡ transmitter_of (xs ++ Commit task buffer payload ∷ []) number m
  on_buffer number m is =
      let e : Entry = Commit task buffer payload in
      let on : is_commit_on number e ≡ true = ap (λ (n : ℕ). eqb buffer n) is ∙ same_number buffer in
      let tally : tally_with (tally_of number xs) ≡ tally_of number (xs ++ e ∷ []) =
      tally-commit number xs e on (λ k. refl) (λ k. refl) in
      let last : Some (committed_now (length xs) payload) ≡ option_map (commit_of (xs ++ e ∷ []))
      (held_commit number (xs ++ e ∷ [])) =
      (λ i. Some (committed_now (length xs) (sym (payload_of-next xs task buffer payload) i))) ∙ ap
      (option_map (commit_of (xs ++ e ∷ []))) (sym (held-commit number xs e on)) in
      λ i. record { mode = m; last = last i; tally = tally i }

  off_buffer : (number : ℕ) (m : Mode) → eqb number buffer ≡ false
      → transmitter_of xs number m ≡ transmitter_of (xs ++ Commit task buffer payload ∷ []) number m
  off_buffer number m other = transmitter-still number m xs (Commit task buffer payload) (swapped number buffer other)
      (λ k. refl) (λ k. refl)

  by_number : (number : ℕ) (m : Mode) (t : Bool) → eqb number buffer ≡ t
      → cond t (with_commit (transmitter_of xs number m) (committed_now (length xs) payload))
      (transmitter_of xs number m) ≡ transmitter_of (xs ++ Commit task buffer payload ∷ []) number m
  by_number number m true e = on_buffer number m (eqb-true number buffer e)
  by_number number m false e = off_buffer number m e

  pub transmitters-commit : (plan : Plan) → change_at (λ b. with_commit b (committed_now (length xs) payload))
      (transmitters plan xs) buffer ≡ transmitters plan (xs ++ Commit task buffer payload ∷ [])
  transmitters-commit plan =
      change_each (λ b. with_commit b (committed_now (length xs) payload)) (transmitter_of xs) buffer plan.buffers
      ∙ each-same (changed (λ b. with_commit b (committed_now (length xs) payload)) buffer (transmitter_of xs))
      (transmitter_of (xs ++ Commit task buffer payload ∷ [])) 0 plan.buffers
      (λ number m. by_number number m (eqb number buffer) refl)

-- ---- a withdraw

module _ (xs : List Entry) (task buffer : ℕ) (of : Option ℕ) (is : of ≡ pending_commit buffer xs) where
  abbrev withdrawal : Entry
  withdrawal = Withdraw task buffer of

  -- a withdrawn commit is the buffer's last commit
  taken_last : (k : ℕ) → takes_back k withdrawal ≡ true → last_commit buffer xs ≡ Some k
  taken_last k taken = found of is taken
    where
      found : (o : Option ℕ) → o ≡ pending_commit buffer xs → is_number k o ≡ true → last_commit buffer xs ≡ Some k
      found None is taken = absurd cc
      found (Some j) is taken = (pending_is buffer xs j (sym is)).0 ∙ ap (λ (n : ℕ). let o : Option ℕ = Some n in o)
          (eqb-true j k taken)

  -- so it isn't a commit of another buffer
  taken_only : (number : ℕ) (before : List Entry) (x : Entry) (rest : List Entry) → xs ≡ before ++ x ∷ rest
      → OnlyLast number (λ k. takes_back k withdrawal) (last_commit number xs) before x
  taken_only number before x rest cut on taken =
      let k : ℕ = length before in
      let from : last_commit buffer xs ≡ Some k = taken_last k taken in
      let here : slice_get xs k ≡ Some x = ap (λ (l : List Entry). slice_get l k) cut ∙ slice_get-next before x rest in
      let on_it : IsCommitAt number xs k = subst (λ (o : Option Entry). IsSomeAnd o (λ e. is_commit_on number e ≡ true))
      (sym here) on in
      let one : number ≡ buffer = same_entry number buffer (slice_get xs k) on_it (last_there xs buffer k from) in
      ap (λ (n : ℕ). last_commit n xs) one ∙ from

  all_only : (number : ℕ) (before rest : List Entry) → xs ≡ before ++ rest
      → AllAfter (OnlyLast number (λ k. takes_back k withdrawal) (last_commit number xs)) before rest
  unfolding AllAfter
  all_only number before [] cut = tt
  all_only number before (x ∷ rest) cut = (
    taken_only number before x rest cut,
    all_only number (before ++ x ∷ []) rest (cut ∙ sym (append_assoc before (x ∷ []) rest)),
  )

  taking : (number : ℕ) (u : Bool) → ((k : ℕ) → last_commit number xs ≡ Some k → u ≡ takes_back k withdrawal)
      → MarksLast number 0 u (λ k. takes_back k withdrawal) xs
  taking number u same = marks_last_from number u (λ k. takes_back k withdrawal) (last_commit number xs) None [] xs
      (sym (or_none (last_commit number xs))) (all_only number [] xs refl) same
    where
      or_none : (o : Option ℕ) → option_or o None ≡ o
      or_none None = refl
      or_none (Some k) = refl

  untaken_else : (number : ℕ) → eqb number buffer ≡ false → (k : ℕ) → last_commit number xs ≡ Some k
      → takes_back k withdrawal ≡ false
  untaken_else number other k last = by_test (takes_back k withdrawal) refl
    where
      by_test : (t : Bool) → takes_back k withdrawal ≡ t → takes_back k withdrawal ≡ false
      by_test true taken =
          let one : number ≡ buffer = one_buffer xs number buffer k last (taken_last k taken) in
          let same : eqb number buffer ≡ true = ap (λ (n : ℕ). eqb n buffer) one ∙ same_number buffer in
          absurd cc
      by_test false untaken = untaken

  else_where : (number : ℕ) (m : Mode) → eqb number buffer ≡ false
      → transmitter_of xs number m ≡ transmitter_of (xs ++ withdrawal ∷ []) number m
  else_where number m other =
      transmitter-other number m xs withdrawal refl (λ k. refl)
      (taking number false (λ k last. sym (untaken_else number other k last))) (untaken_else number other)

-- on the buffer itself nothing is pending, or its last commit is
on_none : (xs : List Entry) (task buffer : ℕ) (m : Mode) → pending_commit buffer xs ≡ None
    → after_withdraw (transmitter_of xs buffer m) ≡ transmitter_of (xs ++ Withdraw task buffer None ∷ []) buffer m
on_none xs task buffer m none =
    let count : count_by is_pending (fates buffer xs) ≡ 0 = pending-one buffer xs ∙ ap
    (λ (o : Option ℕ). cond {A = ℕ} (is_some o) 1 0) none in
    let b : Transmitter = transmitter_of xs buffer m in
    ap (λ (n : ℕ). cond (eqb n 1) (emptied b) b) count ∙ transmitter-still buffer m xs (Withdraw task buffer None) refl
    (λ k. refl) (λ k. refl)

on_some : (xs : List Entry) (task buffer k : ℕ) (m : Mode) → pending_commit buffer xs ≡ Some k
    → after_withdraw (transmitter_of xs buffer m) ≡ transmitter_of (xs ++ Withdraw task buffer (Some k) ∷ []) buffer m
on_some xs task buffer k m some =
    let e : Entry = Withdraw task buffer (Some k) in
    let b : Transmitter = transmitter_of xs buffer m in
    let count : count_by is_pending (fates buffer xs) ≡ 1 = pending-one buffer xs ∙ ap
    (λ (o : Option ℕ). cond {A = ℕ} (is_some o) 1 0) some in
    let last = pending_is buffer xs k some in
    let marked : (j : ℕ) → last_commit buffer xs ≡ Some j → true ≡ takes_back j e =
    λ j there.
    let equal : Some k ≡ Some j = sym last.0 ∙ there in
    let same : k ≡ j = cc in
    sym (ap (λ (n : ℕ). eqb k n) (sym same) ∙ same_number k) in
    let h : IsOther buffer false true xs e = record {
      off = refl;
      sending = marks_none buffer 0 (λ j. sends j e) xs (λ j. refl);
      taking = taking xs task buffer (Some k) (sym some) buffer true marked;
      stands = stands_unsent buffer 0 xs;
    } in
    let held : held_commit buffer (xs ++ e ∷ []) ≡ None = held-taken buffer xs e refl (λ j. refl) k some (same_number k)
    in
    let tally : tally_taken (tally_of buffer xs) ≡ tally_of buffer (xs ++ e ∷ []) = tally-taken buffer xs e h in
    let test : eqb (count_by is_pending (fates buffer xs)) 1 ≡ true = ap (λ (n : ℕ). eqb n 1) count in
    let one : count_by is_withdrawn (fates buffer xs) + 1 ≡ (tally_of buffer (xs ++ e ∷ [])).withdrawn =
    omega (arith, count, ap (λ (t : Tally). t.withdrawn) tally) in
    ap (λ (t : Bool). cond t (emptied b) b) test
    ∙ (λ i. record {
      mode = m;
      last = option_map (commit_of (xs ++ e ∷ [])) (sym held i);
      tally = record {
        committed = (tally i).committed;
        sent = (tally i).sent;
        overwritten = (tally i).overwritten;
        pending = (tally i).pending;
        withdrawn = one i;
      };
    })

module _ (xs : List Entry) (task buffer : ℕ) where
  abbrev with_withdraw : List Entry
  with_withdraw = xs ++ Withdraw task buffer (pending_commit buffer xs) ∷ []

  on_it : (m : Mode) (o : Option ℕ) → pending_commit buffer xs ≡ o
      → after_withdraw (transmitter_of xs buffer m) ≡ transmitter_of (xs ++ Withdraw task buffer o ∷ []) buffer m
  on_it m None is = on_none xs task buffer m is
  on_it m (Some k) is = on_some xs task buffer k m is

  by_buffer : (number : ℕ) (m : Mode) (t : Bool) → eqb number buffer ≡ t
      → cond t (after_withdraw (transmitter_of xs number m)) (transmitter_of xs number m)
      ≡ transmitter_of with_withdraw number m
  by_buffer number m true e =
      subst (λ (n : ℕ). after_withdraw (transmitter_of xs n m) ≡ transmitter_of with_withdraw n m)
      (sym (eqb-true number buffer e)) (on_it m (pending_commit buffer xs) refl)
  by_buffer number m false e = else_where xs task buffer (pending_commit buffer xs) refl number m e

  pub transmitters-withdraw : (plan : Plan) → change_at after_withdraw (transmitters plan xs) buffer ≡ transmitters plan
      with_withdraw
  transmitters-withdraw plan =
      change_each after_withdraw (transmitter_of xs) buffer plan.buffers
      ∙ each-same (changed after_withdraw buffer (transmitter_of xs)) (transmitter_of with_withdraw) 0 plan.buffers
      (λ number m. by_buffer number m (eqb number buffer) refl)

-- ---- offers

pub entry_of-commit : (xs : List Entry) (o : Option ℕ) → option_map (λ (c : HeldCommit). c.entry)
    (option_map (commit_of xs) o) ≡ o
entry_of-commit xs None = refl
entry_of-commit xs (Some k) = refl

-- the offer of a buffer is the one that the journal gives for its mode
pub offer-ready : (xs : List Entry) (number : ℕ) (m : Mode) → offer_of (transmitter_of xs number m) ≡ ready m number xs
offer-ready xs number mode.Event =
    ap (λ (o : Option ℕ). cond (eqb (count_by is_pending (fates number xs)) 1) o None)
    (entry_of-commit xs (held_commit number xs)) ∙ held_pending-counts number xs
offer-ready xs number mode.State = entry_of-commit xs (held_commit number xs)
offer-ready xs number mode.Receive = refl

-- a withdraw withdraws the journal's pending commit
pub pending-ready : (xs : List Entry) (number : ℕ) (m : Mode)
    → pending_of (transmitter_of xs number m) ≡ pending_commit number xs
pending-ready xs number m =
    ap (λ (o : Option ℕ). cond (eqb (count_by is_pending (fates number xs)) 1) o None)
    (entry_of-commit xs (held_commit number xs)) ∙ held_pending-counts number xs

-- the number of commits on a buffer
few_fates : (number n : ℕ) (xs : List Entry) → length (fates_from number n xs) ≤ length xs
unfolding fates_from
few_fates number n [] = omega arith
few_fates number n (x ∷ xs) =
    let here : List Fate = cond (is_commit_on number x) (fate_of number n xs ∷ []) [] in
    omega (
      arith,
      length-append here (fates_from number (n + 1) xs),
      one_at_most (is_commit_on number x) (fate_of number n xs),
      few_fates number (n + 1) xs,
    )
  where
    one_at_most : (t : Bool) (f : Fate) → length (cond t (f ∷ []) []) ≤ 1
    one_at_most true f = omega arith
    one_at_most false f = omega arith

pub committed-most : (number : ℕ) (xs : List Entry) → (tally_of number xs).committed ≤ length xs
committed-most number xs = few_fates number 0 xs
