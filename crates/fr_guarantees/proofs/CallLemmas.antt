-- Calls of a host at one buffer: a commit, and a withdraw that empties the buffer again.
use Rattle.std.proofs.Common.{◌≡◌, ◌≢◌, ℕ, ◌*◌, ◌<◌, ◌≤◌, Bool, true, false, not, cond, ◌||◌, List, length, Option}
use Rattle.std.proofs.Common.{Some, None, refl, sym, ap, ◌∙◌, arith, inl, inr}
use Rattle.std.specs.Prelude.{◌==◌, nat_le, count_by}
use Rattle.std.specs.Option.{option_and_then}
use Rattle.std.proofs.lemmas.Bool.{eq-eqb, eqb-true, ne_eqb, lt-leb}
use Rattle.std.proofs.lemmas.Bool.Decides.{eqb_tells}
use Rattle.fr_core.proofs.CaseLemmas.{kept_if}
use Rattle.fr_core.proofs.HandingLemmas.{data_is}
use Rattle.fr_core.proofs.ReadyLemmas.{pending-new, ready-same, ready-new, ready-taken}
use Rattle.fr_core.proofs.TakingLemmas.{in_slot}
use Rattle.fr_guarantees.proofs.ObservingLemmas.{IsObserved}
use Rattle.fr_guarantees.proofs.OfferingLemmas.{fetched_by}
use Rattle.fr_guarantees.proofs.SilenceLemmas.{Keeps, HasReady, IsMute, not_ready}
use Rattle.fr_interface.specs.declared.errors.HostError.TheVariants.{UnknownTask, NotTransmit, WrongLength, HostFull}
use Rattle.fr_interface.specs.State.{State, with_entry, fetch_entry, withdraw_entry, has_words, is_host_full}
use Rattle.fr_interface.specs.State.{unless_transmit, unless_sending, commit_refusal, withdraw_refusal}
use Rattle.fr_journal.proofs.HeldCommitLemmas.{one_buffer}
use Rattle.fr_journal.proofs.LastCommitLemmas.{last_commit-commit}
use Rattle.fr_journal.specs.declared.entry.Entry.TheVariants.{Commit, Withdraw, Observe}
use Rattle.fr_journal.specs.declared.entry.Offered.{Offered}
use Rattle.fr_journal.specs.declared.entry.Offered.TheVariants.{Nothing, Null, Data}
use Rattle.fr_journal.specs.Entries.{is_host}
use Rattle.fr_journal.specs.Fate.{is_data_of, last_commit, pending_commit, sends, takes_back}
use Rattle.fr_journal.specs.Forms.{Entry}
use Rattle.fr_journal.specs.Offers.{may_begin, ready, ready_in, transmitter, commit_offered, owns, offered_at, offered}
use Rattle.fr_slots.specs.declared.channel.Channel.{Channel}
use Rattle.fr_slots.specs.declared.channel.Channel.TheVariants.{A, B}
use Rattle.fr_slots.specs.declared.plan.Buffer.{Buffer}
use Rattle.fr_slots.specs.declared.plan.Mode.{Mode}
use Rattle.fr_slots.specs.Faults.{words_of}
use Rattle.fr_slots.specs.Plans.{buffer_at, is_receive}
use Rattle.fr_slots.specs.Windows.{Opportunity, slot_of}

-- ---- calls that are accepted

module _ (s : State) (number : ℕ) (b : Buffer) (at : buffer_at s.plan number ≡ Some b)
    (sending : is_receive b.mode ≡ false) (some_task : 1 ≤ s.plan.tasks)
    (room : count_by is_host s.entries < s.plan.host_entries) where
  known_task : nat_le s.plan.tasks 0 ≡ false
  known_task = lt-leb s.plan.tasks 0 (omega (arith, some_task))

  not_full : is_host_full s ≡ false
  not_full = lt-leb s.plan.host_entries (count_by is_host s.entries) room

  pub commit_accepted : (payload : List ℕ) → length payload ≡ 2 * words_of s.params b
      → commit_refusal s 0 number payload ≡ None
  commit_accepted payload words =
      let right : has_words s.params b payload ≡ true = eq-eqb (length payload) (2 * words_of s.params b) words in
      ap (λ (t : Bool). cond t (Some UnknownTask) (unless_transmit s payload (buffer_at s.plan number))) known_task
      ∙ ap (unless_transmit s payload) at
      ∙ (λ i. cond (sending i) (Some NotTransmit) (cond (not (right i)) (Some WrongLength)
      (cond (not_full i) (Some HostFull) None)))

  pub withdraw_accepted : withdraw_refusal s 0 number ≡ None
  withdraw_accepted =
      ap (λ (t : Bool). cond t (Some UnknownTask) (unless_sending s (buffer_at s.plan number))) known_task
      ∙ ap (unless_sending s) at
      ∙ (λ i. cond (sending i) (Some NotTransmit) (cond (not_full i) (Some HostFull) None))

-- ---- the buffers beside one

-- each other buffer has this commit ready, or none
abbrev pub HasOthers : Keeps → State → ℕ → Type 0
HasOthers kept s number = (m : Mode) (other : ℕ) → is_receive m ≡ false → other ≢ number
    → ready m other s.entries ≡ kept other

pub others_committed : (kept : Keeps) (s : State) (number task : ℕ) (payload : List ℕ) → HasOthers kept s number
    → HasOthers kept (with_entry s (Commit task number payload)) number
others_committed kept s number task payload has m other sending differs =
    ready-same other s.entries (Commit task number payload)
    (ne_eqb number other (λ same. differs (sym same))) m (λ j last. refl) (λ j last. refl)
    ∙ has m other sending differs

-- ---- the fetch of a window

record IsSentBy (s : State) (window : Opportunity) (commit : ℕ) : Type 0 where
  pub channel : Channel
  pub buffer : ℕ
  pub transmitter_is : transmitter s.plan window channel ≡ Some buffer
  pub begins : may_begin s.plan window channel ≡ true
  pub is_ready : ready_in s.plan s.entries buffer ≡ Some commit
  pub last : last_commit buffer s.entries ≡ Some commit

record HasSlot (window : Opportunity) (channel : Channel) : Type 0 where
  pub slot : ℕ
  pub is : slot_of window channel ≡ Some slot

offered_slot : (s : State) (window : Opportunity) (channel : Channel) (commit : ℕ) (o : Option ℕ)
    → slot_of window channel ≡ o → offered_at s.plan s.entries window channel o ≡ Data commit
    → HasSlot window channel
offered_slot s window channel commit None is e = absurd (let none : ⊥ = cc in none)
offered_slot s window channel commit (Some slot) is e = record { slot = slot; is = is }

by_offer : (s : State) (window : Opportunity) (channel : Channel) (commit : ℕ) (o : Offered)
    → offered s.plan s.entries window channel ≡ o → is_data_of commit o ≡ true → IsSentBy s window commit
by_offer s window channel commit Nothing is e = absurd (let none : ⊥ = cc in none)
by_offer s window channel commit Null is e = absurd (let none : ⊥ = cc in none)
by_offer s window channel commit (Data k) is e =
    let same : k ≡ commit = eqb-true k commit e in
    let offers : offered s.plan s.entries window channel ≡ Data commit = is ∙ ap Data same in
    let o = in_slot s.plan s.entries window channel commit (slot_of window channel) offers in
    let at = offered_slot s window channel commit (slot_of window channel) refl offers in
    let there = ap (offered_at s.plan s.entries window channel) (sym at.is) ∙ offers in
    record {
      channel = channel;
      buffer = o.buffer;
      transmitter_is = o.at;
      begins = kept_if (may_begin s.plan window channel)
          (option_and_then (ready_in s.plan s.entries) (transmitter s.plan window channel)) commit
          (data_is (owns s.plan window channel at.slot) (commit_offered s.plan s.entries window channel) commit there);
      is_ready = o.is_ready;
      last = o.last;
    }

sent_by : (s : State) (window : Opportunity) (commit : ℕ) (a b : Bool)
    → is_data_of commit (offered s.plan s.entries window A) ≡ a
    → is_data_of commit (offered s.plan s.entries window B) ≡ b → (a || b) ≡ true → IsSentBy s window commit
sent_by s window commit true b on_a on_b e =
    by_offer s window A commit (offered s.plan s.entries window A) refl on_a
sent_by s window commit false true on_a on_b e =
    by_offer s window B commit (offered s.plan s.entries window B) refl on_b
sent_by s window commit false false on_a on_b e = absurd (let none : ⊥ = cc in none)

-- a buffer that isn't ready in any mode offers nothing
never_ready : (entries : List Entry) (number commit : ℕ) → ((m : Mode) → ready m number entries ≡ None)
    → (o : Option Buffer) → option_and_then (λ (b : Buffer). ready b.mode number entries) o ≡ Some commit → ⊥
never_ready entries number commit none None e = let no : ⊥ = cc in no
never_ready entries number commit none (Some b) e = let is = none b.mode in let no : ⊥ = cc in no

-- a fetch sends nothing of the other buffers
unsent : (kept : Keeps) (s : State) (window : Opportunity) (number other commit : ℕ) → HasOthers kept s number
    → IsMute kept s.plan window → other ≢ number
    → last_commit other s.entries ≡ Some commit → sends commit (fetch_entry s window) ≡ false
unsent kept s window number other commit has mute differs last = by (sends commit (fetch_entry s window)) refl
  where
    never : IsSentBy s window commit → ⊥
    never sent = elim (eqb_tells sent.buffer number) [
      | inl same ↦ differs (one_buffer s.entries other number commit last
          (ap (λ (n : ℕ). last_commit n s.entries) (sym same.1) ∙ sent.last))
      | inr another ↦ (
          let none = mute sent.channel sent.buffer sent.transmitter_is sent.begins in
          never_ready s.entries sent.buffer commit (not_ready s.entries sent.buffer
          (λ m sending. has m sent.buffer sending another.1 ∙ none)) (buffer_at s.plan sent.buffer) sent.is_ready)
    ]

    by : (t : Bool) → sends commit (fetch_entry s window) ≡ t → sends commit (fetch_entry s window) ≡ false
    by false e = e
    by true e = absurd (never (sent_by s window commit (is_data_of commit (offered s.plan s.entries window A))
        (is_data_of commit (offered s.plan s.entries window B)) refl refl e))

pub others_after : (kept : Keeps) (s t : State) (window : Opportunity) (number : ℕ) → HasOthers kept s number
    → IsMute kept s.plan window → IsObserved (fetched_by s window) t window → HasOthers kept t number
others_after kept s t window number has mute seen m other sending differs =
    ap (λ (x : State). ready m other x.entries) seen.is
    ∙ ready-same other (fetched_by s window).entries (Observe window.number seen.a seen.b) refl m
    (λ j last. refl) (λ j last. refl)
    ∙ ready-same other s.entries (fetch_entry s window) refl m
    (λ j last. unsent kept s window number other j has mute differs last) (λ j last. refl)
    ∙ has m other sending differs

-- ---- the withdraw that empties the buffer

abbrev pub emptied : State → ℕ → List ℕ → State
emptied s number payload =
    with_entry (with_entry s (Commit 0 number payload))
    (withdraw_entry (with_entry s (Commit 0 number payload)) 0 number)

module _ (kept : Keeps) (s : State) (number : ℕ) (payload : List ℕ) (has : HasOthers kept s number) where
  abbrev committed : State
  committed = with_entry s (Commit 0 number payload)

  pending : pending_commit number committed.entries ≡ Some (length s.entries)
  pending = pending-new number s.entries (Commit 0 number payload) (eq-eqb number number refl)

  last : last_commit number committed.entries ≡ Some (length s.entries)
  last = last_commit-commit number s.entries (Commit 0 number payload) (eq-eqb number number refl)

  taken : (commit : ℕ) → takes_back commit (withdraw_entry committed 0 number) ≡ (length s.entries == commit)
  taken commit = ap (λ (o : Option ℕ). takes_back commit (Withdraw 0 number o)) pending

  others : (m : Mode) (other : ℕ) → is_receive m ≡ false → other ≢ number
      → ready m other (emptied s number payload).entries ≡ kept other
  others m other sending differs =
      ready-same other committed.entries (withdraw_entry committed 0 number) refl m (λ j known. refl)
      (λ j known. taken j ∙ ne_eqb (length s.entries) j (λ same. differs (one_buffer committed.entries other number j
      known (last ∙ ap Some same))))
      ∙ others_committed kept s number 0 payload has m other sending differs

  pub emptied_is : kept number ≡ None → HasReady kept (emptied s number payload)
  emptied_is none m other sending = elim (eqb_tells other number) [
    | inl same ↦ ap (λ (n : ℕ). ready m n (emptied s number payload).entries) same.1
        ∙ ready-taken number committed.entries (withdraw_entry committed 0 number) refl m (length s.entries)
        (λ j. refl) pending (taken (length s.entries) ∙ eq-eqb (length s.entries) (length s.entries) refl)
        ∙ sym none ∙ ap kept (sym same.1)
    | inr differs ↦ others m other sending differs.1
  ]

-- a commit on the buffer is ready
pub committed_ready : (s : State) (number : ℕ) (payload : List ℕ) (b : Buffer) → is_receive b.mode ≡ false
    → ready b.mode number (with_entry s (Commit 0 number payload)).entries ≡ Some (length s.entries)
committed_ready s number payload b sending =
    ready-new number s.entries (Commit 0 number payload) b.mode sending (eq-eqb number number refl)
