-- The kept data after one more call, from those of some history.
use Rattle.std.proofs.Common.{◌≡◌, ℕ, ◌+◌, ◌*◌, ◌≤◌, ◌<◌, ◌^◌, Bool, true, false, cond, List, [], ◌∷◌, ◌++◌}
use Rattle.std.proofs.Common.{not, length, map, Option, Some, None, refl, sym, ap, subst, ◌∙◌, arith, option_map}
use Rattle.std.specs.Prelude.{IfSome, IsSomeAnd, count_by, nat_le, slice_get, is_some}
use Rattle.std.specs.Option.{option_and_then, ForSome}
use Rattle.std.proofs.lemmas.List.Sums.{sum_by-append}
use Rattle.fr_buffers.specs.Transmitting.{Transmitter, with_commit, entry_of}
use Rattle.fr_buffers.specs.Waiting.{Waiting}
use Rattle.fr_frame.specs.Fields.{Fields}
use Rattle.fr_interface.specs.declared.errors.HostError.TheVariants.{UnknownTask, UnknownBuffer}
use Rattle.fr_interface.specs.declared.offers.Outgoing.{Outgoing}
use Rattle.fr_interface.specs.declared.sending.Sender.{Sender}
use Rattle.fr_interface.specs.Known.{transmitters, held_in, waiting_of, change_at, stored_all, with_arrivals, with_seen}
use Rattle.fr_interface.specs.Seeing.{status_seen}
use Rattle.fr_interface.specs.Sending.{sender_in, frame_at, pending_at, frame_by, outgoing_in, sender_on, outgoing_on}
use Rattle.fr_interface.specs.Sending.{owner_on, offered_by}
use Rattle.fr_interface.specs.Standing.{Leaves, limited, IsLegalHistory, Standing, standing_of, IsHistory}
use Rattle.fr_interface.specs.Standing.{entries_before, after_commit, after_read, after_fetch, after_observe}
use Rattle.fr_interface.specs.Standing.{after_taking_back, after_pop, sending_fault, withdraw_refused, queue_fault}
use Rattle.fr_interface.specs.Standing.{pop_refused, held_at, oldest_at, source_where, source_at, tally_where, tally_at}
use Rattle.fr_interface.specs.Standing.{received_where, received_at, is_full, commit_fault, commit_refused, read_fault}
use Rattle.fr_interface.specs.Standing.{read_refused, fetch_refused, observe_refused, moment_before}
use Rattle.fr_interface.specs.State.{State, with_entry, is_host_full, unless_transmit, commit_refusal, unless_receive}
use Rattle.fr_interface.specs.State.{read_refusal, fetch_refusal, observe_refusal, withdraw_entry, read_entry}
use Rattle.fr_interface.specs.State.{pop_entry, fetch_entry, received_by, received_in, source_by, source_of, arrived_of}
use Rattle.fr_interface.specs.State.{popped_of, queued_of, unless_open, tally_in, tally_by, oldest_of, length_of}
use Rattle.fr_interface.specs.State.{unless_sending, withdraw_refusal, unless_queued, pop_refusal}
use Rattle.fr_interface.proofs.AnswerLemmas.{received-place, observed-place, commit-place, pending-place, tally-place}
use Rattle.fr_interface.proofs.AnswerLemmas.{length-place, balance-place}
use Rattle.fr_interface.proofs.CounterLemmas.{counters-other, counters-observe, room_on_a, room_on_b}
use Rattle.fr_interface.proofs.KeptLemmas.{front_of, queue-pop, pop_queued, queue-other, queue-observe, number_there}
use Rattle.fr_interface.proofs.KeptLemmas.{commits_fit, losses_fit, for_some, received_line}
use Rattle.fr_interface.proofs.OpeningLemmas.{opening-withdraw, opening-pop, opening-commit, opening-read}
use Rattle.fr_interface.proofs.OpeningLemmas.{opening-fetch, opening-observe}
use Rattle.fr_interface.proofs.ReceiveLemmas.{held-other, held-observe}
use Rattle.fr_interface.proofs.SenderLemmas.{IsFetched, transmitters-fetch, offered-place, sender-is, sent-by}
use Rattle.fr_interface.proofs.SenderLemmas.{frame-place, frame-nothing}
use Rattle.fr_interface.proofs.TestLemmas.{fetchable}
use Rattle.fr_interface.proofs.TransmitLemmas.{transmitters-withdraw, transmitters-commit, transmitters-other}
use Rattle.fr_journal.specs.Counts.{counters_of}
use Rattle.fr_journal.specs.Cycles.{begins_cycle_at, cycles_of, run_cycle, moment_after}
use Rattle.fr_journal.specs.Forms.{Entry}
use Rattle.fr_journal.specs.declared.entry.Entry.TheVariants.{Commit, Withdraw, Read, Pop, Fetch, Observe}
use Rattle.fr_journal.specs.declared.entry.Moment.{Moment}
use Rattle.fr_journal.specs.declared.entry.Offered.{Offered}
use Rattle.fr_journal.specs.declared.entry.Origin.{Origin}
use Rattle.fr_journal.specs.Entries.{is_host, is_slot, IsEntry, IsOffered}
use Rattle.fr_journal.specs.declared.entry.Arrival.{Arrival}
use Rattle.fr_journal.specs.Fate.{is_data_of, pending_commit, tally_of}
use Rattle.fr_interface.specs.declared.source.Source.TheVariants as source
use Rattle.fr_journal.specs.Offers.{offered, frame_offered}
use Rattle.fr_journal.specs.declared.entry.Offered.TheVariants.{Nothing}
use Rattle.fr_journal.proofs.RoomLemmas.{room_for_observe}
use Rattle.fr_journal.proofs.ContentLemmas.{queue_length-capacity}
use Rattle.fr_slots.specs.Faults.{words_of}
use Rattle.fr_status.specs.Counting.{HasRoom}
use Rattle.fr_status.specs.declared.status.SlotStatus.{SlotStatus}
use Rattle.fr_journal.specs.Held.{data_frame_seen, held, origin_of, frame_of, IsReceivable}
use Rattle.fr_journal.specs.Arrivals.{moves}
use Rattle.fr_journal.proofs.SeenPlaceLemmas.{held_is_receivable}
use Rattle.fr_slots.specs.declared.filter.Filter.{Filter}
use Rattle.fr_journal.specs.Legal.{IsLegal, IsLegalJournal, AreEntries}
use Rattle.fr_journal.specs.OpenWindow.{open_window}
use Rattle.fr_journal.proofs.KindLemmas.{kinds_fill}
use Rattle.std.proofs.lemmas.List.{length-map}
use Rattle.fr_slots.proofs.HistoryLemmas.{AllAfter-snoc}
use Rattle.fr_slots.specs.declared.channel.Channel.TheVariants.{A, B}
use Rattle.fr_slots.specs.declared.channel.Channel.{Channel}
use Rattle.fr_slots.specs.declared.plan.Buffer.{Buffer}
use Rattle.fr_slots.specs.declared.plan.Queue.{Queue}
use Rattle.fr_slots.specs.Plans.{Plan, is_receive, buffer_at, with_limits}
use Rattle.fr_slots.specs.Parameters.{Parameters}
use Rattle.fr_slots.specs.declared.plan.Own.{Own}
use Rattle.fr_slots.specs.Windows.{Opportunity, IsInRange, opens_cycle, slot_of}
use Rattle.fr_status.specs.Forms.{Seen}

-- ---- counts

pub host_more : (xs : List Entry) (e : Entry) → is_host e ≡ true
    → (count_by is_host (xs ++ e ∷ []) ≡ count_by is_host xs + 1) ×
    (count_by is_slot (xs ++ e ∷ []) ≡ count_by is_slot xs)
host_more xs e host =
    let one : cond {A = ℕ} (is_host e) 1 0 ≡ 1 = ap (λ (b : Bool). cond {A = ℕ} b 1 0) host in
    let none : cond {A = ℕ} (is_slot e) 1 0 ≡ 0 = ap (λ (b : Bool). cond {A = ℕ} (not b) 1 0) host in (
      omega (arith, sum_by-append (λ x. cond (is_host x) 1 0) xs (e ∷ []), one),
      omega (arith, sum_by-append (λ x. cond (is_slot x) 1 0) xs (e ∷ []), none),
    )

pub slot_more : (xs : List Entry) (e : Entry) → is_host e ≡ false
    → (count_by is_host (xs ++ e ∷ []) ≡ count_by is_host xs) ×
    (count_by is_slot (xs ++ e ∷ []) ≡ count_by is_slot xs + 1)
slot_more xs e slot =
    let none : cond {A = ℕ} (is_host e) 1 0 ≡ 0 = ap (λ (b : Bool). cond {A = ℕ} b 1 0) slot in
    let one : cond {A = ℕ} (is_slot e) 1 0 ≡ 1 = ap (λ (b : Bool). cond {A = ℕ} (not b) 1 0) slot in (
      omega (arith, sum_by-append (λ x. cond (is_host x) 1 0) xs (e ∷ []), none),
      omega (arith, sum_by-append (λ x. cond (is_slot x) 1 0) xs (e ∷ []), one),
    )

pub entries-length : (s : State) → entries_before (standing_of s) ≡ length s.entries
entries-length s = kinds_fill s.entries

-- one more legal entry
pub legal-more : (s : State) (e : Entry) → IsLegalHistory s → IsEntry e → IsLegal s.params s.plan s.entries e
    → IsLegalHistory (with_entry s e)
legal-more s e legal entry_is here = record {
  params_are = legal.params_are;
  few = legal.few;
  entries_are = AllAfter-snoc _ _ _ legal.entries_are entry_is;
  legal = AllAfter-snoc _ _ _ legal.legal here;
}

-- ---- cycles

pub cycles-more : (xs : List Entry) (e : Entry)
    → cycles_of (xs ++ e ∷ []) ≡ cycles_of xs + cond (begins_cycle_at e) 1 0
cycles-more xs e = omega (arith, sum_by-append (λ x. cond (begins_cycle_at x) 1 0) xs (e ∷ []))

pub cycles-other : (xs : List Entry) (e : Entry) → begins_cycle_at e ≡ false → cycles_of (xs ++ e ∷ []) ≡ cycles_of xs
cycles-other xs e other =
    let none : cond {A = ℕ} (begins_cycle_at e) 1 0 ≡ 0 = ap (λ (b : Bool). cond {A = ℕ} b 1 0) other in
    omega (arith, cycles-more xs e, none)

cycles_first : (e : Entry) (xs : List Entry) → cycles_of (e ∷ xs) ≡ cond (begins_cycle_at e) 1 0 + cycles_of xs
cycles_first e xs = omega (arith, sum_by-append (λ x. cond (begins_cycle_at x) 1 0) (e ∷ []) xs)

slots_first : (e : Entry) (xs : List Entry) → count_by is_slot (e ∷ xs) ≡ cond (is_slot e) 1 0 + count_by is_slot xs
slots_first e xs = omega (arith, sum_by-append (λ x. cond (is_slot x) 1 0) (e ∷ []) xs)

one_at_most : (t : Bool) → cond {A = ℕ} t 1 0 ≤ 1
one_at_most true = omega arith
one_at_most false = omega arith

begins_slot : (e : Entry) → cond {A = ℕ} (begins_cycle_at e) 1 0 ≤ cond {A = ℕ} (is_slot e) 1 0
begins_slot (Commit task buffer payload) = omega arith
begins_slot (Withdraw task buffer of) = omega arith
begins_slot (Read task buffer from) = omega arith
begins_slot (Pop task from) = omega arith
begins_slot (Fetch w a b) = one_at_most (opens_cycle w)
begins_slot (Observe window a b) = omega arith

-- only a fetch begins a cycle
pub cycles-most : (xs : List Entry) → cycles_of xs ≤ count_by is_slot xs
cycles-most [] = omega arith
cycles-most (e ∷ xs) = omega (arith, cycles_first e xs, slots_first e xs, begins_slot e, cycles-most xs)

pub moment-is : (s : State) → moment_before (standing_of s) ≡ moment_after s.entries
moment-is s = λ i. record { entry = entries-length s i; cycle = run_cycle s.entries }

-- ---- a commit

pub standing-commit : (s : State) (task buffer : ℕ) (payload : List ℕ)
    → standing_of (with_entry s (Commit task buffer payload)) ≡ after_commit (standing_of s) buffer payload
standing-commit s task buffer payload =
    let e = Commit task buffer payload in
    let counts = host_more s.entries e refl in
    let transmit : transmitters s.plan (s.entries ++ e ∷ []) ≡ change_at
    (λ b. with_commit b (record { entry = entries_before (standing_of s); payload = payload }))
    (transmitters s.plan s.entries) buffer =
    sym (transmitters-commit s.entries task buffer payload s.plan)
    ∙ ap (λ (n : ℕ). change_at (λ b. with_commit b (record { entry = n; payload = payload }))
    (transmitters s.plan s.entries) buffer) (sym (entries-length s)) in
    λ i. record {
      params = s.params;
      plan = s.plan;
      host_limit = s.plan.host_entries;
      slot_limit = s.plan.slot_entries;
      hosts = counts.0 i;
      slots = counts.1 i;
      cycles = cycles-other s.entries e refl i;
      opening = opening-commit s.entries task buffer payload i;
      transmit = transmit i;
      receive = held-other s.params s.entries e s.plan.buffers (λ f. refl) i;
      queue = sym (queue-other s.params s.plan s.entries e (λ q. refl) refl s.plan.queue) i;
      counters = counters-other s.params s.entries e (λ bit channel. refl) i;
    }

abbrev CommitGoesOn : State → ℕ → ℕ → List ℕ → Buffer → Standing → Type 0
CommitGoesOn s task buffer payload line h = task < h.plan.tasks → buffer_at h.plan buffer ≡ Some line
    → is_receive line.mode ≡ false
    → length payload ≡ 2 * words_of h.params line → h.hosts < h.host_limit
    → Leaves (after_commit h buffer payload) (with_entry s (Commit task buffer payload))

pub history-commit : (h : Standing) (s : State) (task buffer : ℕ) (payload : List ℕ) (line : Buffer) → IsHistory h s
    → IsEntry (Commit task buffer payload) → CommitGoesOn s task buffer payload line (limited h)
history-commit h s task buffer payload line is entry_is = subst (CommitGoesOn s task buffer payload line) is.leaves
    (λ task_is there transmits words room.
    let counts = host_more s.entries (Commit task buffer payload) refl in
    record {
      legal = legal-more s (Commit task buffer payload) is.legal entry_is (record {
        task_is = task_is;
        transmits = subst (λ (o : Option Buffer). IsSomeAnd o
            (λ b. (is_receive b.mode ≡ false) × (length payload ≡ 2 * words_of s.params b))) (sym there)
            (transmits, words);
        room = room;
      });
      host_room = omega (arith, counts.0, room);
      slot_room = omega (arith, counts.1, is.slot_room);
      leaves = standing-commit s task buffer payload;
    })

-- ---- a withdraw

pub standing-withdraw : (s : State) (task buffer : ℕ) → standing_of (with_entry s (withdraw_entry s task buffer)) ≡
    after_taking_back (standing_of s) buffer
standing-withdraw s task buffer =
    let e = withdraw_entry s task buffer in
    let counts = host_more s.entries e refl in
    λ i. record {
      params = s.params;
      plan = s.plan;
      host_limit = s.plan.host_entries;
      slot_limit = s.plan.slot_entries;
      hosts = counts.0 i;
      slots = counts.1 i;
      cycles = cycles-other s.entries e refl i;
      opening = opening-withdraw s.entries task buffer (pending_commit buffer s.entries) i;
      transmit = sym (transmitters-withdraw s.entries task buffer s.plan) i;
      receive = held-other s.params s.entries e s.plan.buffers (λ f. refl) i;
      queue = sym (queue-other s.params s.plan s.entries e (λ q. refl) refl s.plan.queue) i;
      counters = counters-other s.params s.entries e (λ bit channel. refl) i;
    }

abbrev WithdrawGoesOn : State → ℕ → ℕ → Buffer → Standing → Type 0
WithdrawGoesOn s task buffer line h = task < h.plan.tasks → buffer_at h.plan buffer ≡ Some line
    → is_receive line.mode ≡ false → h.hosts < h.host_limit
    → Leaves (after_taking_back h buffer) (with_entry s (withdraw_entry s task buffer))

pub pending-there : (h : Standing) (s : State) (buffer : ℕ) (line : Buffer) → IsHistory h s
    → buffer_at h.plan buffer ≡ Some line → pending_at h.transmit buffer ≡ pending_commit buffer s.entries
pending-there h s buffer line is there =
    pending-place s buffer line (ap (λ (x : Standing). buffer_at x.plan buffer) is.leaves ∙ there) h.transmit
    (sym (ap (λ (x : Standing). x.transmit) is.leaves))

pub history-withdraw : (h : Standing) (s : State) (task buffer : ℕ) (line : Buffer) → IsHistory h s
    → IsEntry (withdraw_entry s task buffer) → WithdrawGoesOn s task buffer line (limited h)
history-withdraw h s task buffer line is entry_is = subst (WithdrawGoesOn s task buffer line) is.leaves
    (λ task_is there transmits room.
    let e = withdraw_entry s task buffer in
    let counts = host_more s.entries e refl in
    record {
      legal = legal-more s e is.legal entry_is (record {
        task_is = task_is;
        transmits = subst (λ (o : Option Buffer). IsSomeAnd o (λ b. is_receive b.mode ≡ false)) (sym there) transmits;
        found = refl;
        room = room;
      });
      host_room = omega (arith, counts.0, room);
      slot_room = omega (arith, counts.1, is.slot_room);
      leaves = standing-withdraw s task buffer;
    })

-- ---- a pop

pub standing-pop : (s : State) (task : ℕ) → standing_of (with_entry s (pop_entry s task)) ≡ after_pop (standing_of s)
standing-pop s task =
    let e = pop_entry s task in
    let from = option_map origin_of (oldest_of s) in
    let counts = host_more s.entries e refl in
    λ i. record {
      params = s.params;
      plan = s.plan;
      host_limit = s.plan.host_entries;
      slot_limit = s.plan.slot_entries;
      hosts = counts.0 i;
      slots = counts.1 i;
      cycles = cycles-other s.entries e refl i;
      opening = opening-pop s.entries task from i;
      transmit = transmitters-other s.plan s.entries e (λ n. refl) (λ k. refl) (λ k. refl) i;
      receive = held-other s.params s.entries e s.plan.buffers (λ f. refl) i;
      queue = sym (queue-pop s.params s.plan s.entries task from s.plan.queue refl) i;
      counters = counters-other s.params s.entries e (λ bit channel. refl) i;
    }

abbrev PopGoesOn : State → ℕ → Standing → Type 0
PopGoesOn s task h = task < h.plan.tasks → is_some h.plan.queue ≡ true → h.hosts < h.host_limit
    → Leaves (after_pop h) (with_entry s (pop_entry s task))

pub oldest-there : (h : Standing) (s : State) → IsHistory h s → oldest_at h ≡ oldest_of s
oldest-there h s is = subst (λ (x : Standing). oldest_at x ≡ oldest_of s) is.leaves
    (front_of s.params s.plan s.entries s.plan.queue)

pub history-pop : (h : Standing) (s : State) (task : ℕ) → IsHistory h s → IsEntry (pop_entry s task)
    → PopGoesOn s task (limited h)
history-pop h s task is entry_is = subst (PopGoesOn s task) is.leaves (λ task_is there room.
    let e = pop_entry s task in
    let counts = host_more s.entries e refl in
    record {
      legal = legal-more s e is.legal entry_is (record {
        task_is = task_is;
        queued = pop_queued s.params s.plan s.entries (option_map origin_of (oldest_of s)) s.plan.queue refl there;
        room = room;
      });
      host_room = omega (arith, counts.0, room);
      slot_room = omega (arith, counts.1, is.slot_room);
      leaves = standing-pop s task;
    })

-- ---- a read

pub standing-read : (s : State) (task buffer : ℕ) (from : Option Origin)
    → standing_of (with_entry s (Read task buffer from)) ≡ after_read (standing_of s)
standing-read s task buffer from =
    let e = Read task buffer from in
    let counts = host_more s.entries e refl in
    λ i. record {
      params = s.params;
      plan = s.plan;
      host_limit = s.plan.host_entries;
      slot_limit = s.plan.slot_entries;
      hosts = counts.0 i;
      slots = counts.1 i;
      cycles = cycles-other s.entries e refl i;
      opening = opening-read s.entries task buffer from i;
      transmit = transmitters-other s.plan s.entries e (λ n. refl) (λ k. refl) (λ k. refl) i;
      receive = held-other s.params s.entries e s.plan.buffers (λ f. refl) i;
      queue = sym (queue-other s.params s.plan s.entries e (λ q. refl) refl s.plan.queue) i;
      counters = counters-other s.params s.entries e (λ bit channel. refl) i;
    }

abbrev ReadGoesOn : State → ℕ → ℕ → Buffer → Standing → Type 0
ReadGoesOn s task buffer line h = task < h.plan.tasks → buffer_at h.plan buffer ≡ Some line
    → is_receive line.mode ≡ true → h.hosts < h.host_limit
    → Leaves (after_read h) (with_entry s (read_entry s task buffer))

pub held-read : (h : Standing) (s : State) (buffer : ℕ) → IsHistory h s
    → option_and_then (λ (x : Option Arrival). x) (slice_get h.receive buffer) ≡ received_by s buffer
held-read h s buffer is = received-place s buffer h.receive (sym (ap (λ (x : Standing). x.receive) is.leaves))

pub history-read : (h : Standing) (s : State) (task buffer : ℕ) (line : Buffer) → IsHistory h s
    → IsEntry (read_entry s task buffer) → ReadGoesOn s task buffer line (limited h)
history-read h s task buffer line is entry_is = subst (ReadGoesOn s task buffer line) is.leaves
    (λ task_is there receives room.
    let from = option_map origin_of (received_by s buffer) in
    let counts = host_more s.entries (Read task buffer from) refl in
    record {
      legal = legal-more s (Read task buffer from) is.legal entry_is (record {
        task_is = task_is;
        receives = subst (λ (o : Option Buffer). IsSomeAnd o
            (λ b. (is_receive b.mode ≡ true) × (from ≡ option_map origin_of (held s.params b.filter s.entries))))
            (sym there)
            (receives, ap (option_map origin_of) (received_line s buffer line there receives));
        room = room;
      });
      host_room = omega (arith, counts.0, room);
      slot_room = omega (arith, counts.1, is.slot_room);
      leaves = standing-read s task buffer from;
    })

-- ---- a fetch

pub standing-fetch : (s : State) (window : Opportunity) (a b : Offered) (from_a from_b : Option Sender)
    → IsFetched s.plan s.entries window a b from_a from_b
    → standing_of (with_entry s (Fetch window a b)) ≡ after_fetch (standing_of s) window from_a from_b
standing-fetch s window a b from_a from_b sent =
    let e = Fetch window a b in
    let counts = slot_more s.entries e refl in
    λ i. record {
      params = s.params;
      plan = s.plan;
      host_limit = s.plan.host_entries;
      slot_limit = s.plan.slot_entries;
      hosts = counts.0 i;
      slots = counts.1 i;
      cycles = cycles-more s.entries e i;
      opening = opening-fetch s.entries window a b i;
      transmit = sym (transmitters-fetch s.plan s.entries window a b from_a from_b sent) i;
      receive = held-other s.params s.entries e s.plan.buffers (λ f. refl) i;
      queue = sym (queue-other s.params s.plan s.entries e (λ q. refl) refl s.plan.queue) i;
      counters = counters-other s.params s.entries e (λ bit channel. refl) i;
    }

abbrev FetchGoesOn : State → Opportunity → Standing → Type 0
FetchGoesOn s window h = fetch_refused h window ≡ None → IsOffered (outgoing_on h.plan h.transmit window A).offered
    → IsOffered (outgoing_on h.plan h.transmit window B).offered
    → Leaves (after_fetch h window (outgoing_on h.plan h.transmit window A).sender
    (outgoing_on h.plan h.transmit window B).sender) (with_entry s (fetch_entry s window))

pub history-fetch : (h : Standing) (s : State) (window : Opportunity) → IsHistory h s → IsInRange window
    → FetchGoesOn s window (limited h)
history-fetch h s window is ranged = subst (FetchGoesOn s window) is.leaves (λ none fits_a fits_b.
    let accepted = fetchable s window none in
    let placed = transmitters s.plan s.entries in
    let from_a = sender_on s.plan placed window A in
    let from_b = sender_on s.plan placed window B in
    let a = offered s.plan s.entries window A in
    let b = offered s.plan s.entries window B in
    let is_a : offered_by window A (owner_on s.plan window A) from_a ≡ a = offered-place s.plan s.entries window A in
    let is_b : offered_by window B (owner_on s.plan window B) from_b ≡ b = offered-place s.plan s.entries window B in
    let counts = slot_more s.entries (Fetch window a b) refl in
    let sent : IsFetched s.plan s.entries window a b from_a from_b = record {
      sender_a = sender-is s.plan s.entries window A;
      sender_b = sender-is s.plan s.entries window B;
      sent_a = λ k. ap (is_data_of k) (sym is_a) ∙ sent-by s.plan window A k placed;
      sent_b = λ k. ap (is_data_of k) (sym is_b) ∙ sent-by s.plan window B k placed;
    } in
    record {
      legal = legal-more s (Fetch window a b) is.legal
          (record { window_is = ranged; a_fits = subst IsOffered is_a fits_a; b_fits = subst IsOffered is_b fits_b })
          (record {
            closed = accepted.closed;
            fits = accepted.fits;
            later = accepted.later;
            room = accepted.room;
            offer_a = refl;
            offer_b = refl;
          });
      host_room = omega (arith, counts.0, is.host_room);
      slot_room = omega (arith, counts.1, accepted.room);
      leaves = standing-fetch s window a b from_a from_b sent;
    })

-- ---- an observed window

pub standing-observe : (s : State) (n : ℕ) (a b : Seen) (window : Opportunity)
    → IsLegalJournal s.params s.plan s.entries → open_window s.entries ≡ Some window
    → standing_of (with_entry s (Observe n a b))
    ≡ after_observe (standing_of s) window (status_seen s.params window A a) (status_seen s.params window B b)
    (data_frame_seen s.params window A a) (data_frame_seen s.params window B b)
standing-observe s n a b window legal opened =
    let e = Observe n a b in
    let counts = slot_more s.entries e refl in
    let frame_a = data_frame_seen s.params window A a in
    let frame_b = data_frame_seen s.params window B b in
    let moment : moment_after s.entries ≡ moment_before (standing_of s) = sym (moment-is s) in
    let receive : map (held_in s.params (s.entries ++ e ∷ [])) s.plan.buffers ≡ stored_all
    (moment_before (standing_of s)) window frame_a frame_b s.plan.buffers
    (map (held_in s.params s.entries) s.plan.buffers) =
    sym (held-observe s.params s.entries n a b window opened s.plan.buffers)
    ∙ ap (λ (k : Moment). stored_all k window frame_a frame_b s.plan.buffers
    (map (held_in s.params s.entries) s.plan.buffers)) moment in
    let queue : option_map (waiting_of s.params s.plan (s.entries ++ e ∷ [])) s.plan.queue ≡ with_arrivals s.plan
    (moment_before (standing_of s)) window frame_a frame_b s.plan.queue
    (option_map (waiting_of s.params s.plan s.entries) s.plan.queue) =
    sym (queue-observe s.params s.plan s.entries n a b window legal opened s.plan.queue refl)
    ∙ ap (λ (k : Moment). with_arrivals s.plan k window frame_a frame_b s.plan.queue
    (option_map (waiting_of s.params s.plan s.entries) s.plan.queue)) moment in
    λ i. record {
      params = s.params;
      plan = s.plan;
      host_limit = s.plan.host_entries;
      slot_limit = s.plan.slot_entries;
      hosts = counts.0 i;
      slots = counts.1 i;
      cycles = cycles-other s.entries e refl i;
      opening = opening-observe s.entries n a b i;
      transmit = transmitters-other s.plan s.entries e (λ n. refl) (λ k. refl) (λ k. refl) i;
      receive = receive i;
      queue = queue i;
      counters = counters-observe s.params s.entries n a b window opened i;
    }

abbrev ObserveGoesOn : State → ℕ → Seen → Seen → Opportunity → Standing → Type 0
ObserveGoesOn s n a b window h = h.opening.window ≡ Some window → window.number ≡ n
    → Leaves (after_observe h window (status_seen h.params window A a) (status_seen h.params window B b)
    (data_frame_seen h.params window A a) (data_frame_seen h.params window B b)) (with_entry s (Observe n a b))

pub history-observe : (h : Standing) (s : State) (n : ℕ) (a b : Seen) (window : Opportunity) → IsHistory h s
    → IsEntry (Observe n a b) → ObserveGoesOn s n a b window (limited h)
history-observe h s n a b window is entry_is = subst (ObserveGoesOn s n a b window) is.leaves (λ opened numbered.
    let counts = slot_more s.entries (Observe n a b) refl in
    record {
      legal = legal-more s (Observe n a b) is.legal entry_is
          (subst (λ (o : Option Opportunity). IsSomeAnd o (λ w. w.number ≡ n)) (sym opened) numbered);
      host_room = omega (arith, counts.0, is.host_room);
      slot_room = omega (arith, counts.1, room_for_observe s.params s.plan s.entries window is.legal.legal opened);
      leaves = standing-observe s n a b window is.legal.legal opened;
    })

-- ---- facts that calls need

pub few_calls : (h : Standing) (s : State) → IsHistory h s → length s.entries + 2 ≤ 2 ^ 32
few_calls h s is = omega (arith, kinds_fill s.entries, is.host_room, is.slot_room, is.legal.few)

pub few_entries : (h : Standing) (s : State) → IsHistory h s → entries_before h + 2 ≤ 2 ^ 32
few_entries h s is = subst (λ (x : Standing). entries_before x + 2 ≤ 2 ^ 32) is.leaves
    (omega (arith, is.host_room, is.slot_room, is.legal.few))

abbrev CommitFits : ℕ → Buffer → Standing → Type 0
CommitFits buffer line h = buffer_at h.plan buffer ≡ Some line
    → (buffer < length h.transmit) × IfSome (slice_get h.transmit buffer) (λ b. b.tally.committed + 1 < 2 ^ 32)

pub commit-fits : (h : Standing) (s : State) (buffer : ℕ) (line : Buffer) → IsHistory h s
    → CommitFits buffer line (limited h)
commit-fits h s buffer line is = subst (CommitFits buffer line) is.leaves
    (λ there. (
      number_there s.plan s.entries buffer line there,
      commits_fit s.plan s.entries buffer line there (few_calls h s is),
    ))

pub count-fits_a : (h : Standing) (s : State) → IsHistory h s → (t : SlotStatus) → HasRoom h.counters A t
count-fits_a h s is t = subst (λ (x : Standing). HasRoom x.counters A t) is.leaves
    (room_on_a s.params s.entries t (few_calls h s is))

pub count-fits_b : (h : Standing) (s : State) (o : Option SlotStatus) → IsHistory h s → (t : SlotStatus)
    → HasRoom (with_seen h.counters A o) B t
count-fits_b h s o is t = subst (λ (x : Standing). HasRoom (with_seen x.counters A o) B t) is.leaves
    (room_on_b s.params s.entries o t (few_calls h s is))

abbrev ArrivalsFit : Opportunity → Standing → Type 0
ArrivalsFit w h = h.opening.window ≡ Some w → IfSome h.queue (λ w. w.lost + 2 < 2 ^ 32)

pub arrivals-fit : (h : Standing) (s : State) (w : Opportunity) → IsHistory h s → h.opening.window ≡ Some w
    → ForSome h.queue (λ w. w.lost + 2 < 2 ^ 32)
arrivals-fit h s w is opened = for_some (λ (w : Waiting). w.lost + 2 < 2 ^ 32) h.queue
    (subst (ArrivalsFit w) is.leaves (λ is_open. losses_fit s.params s.plan s.entries
    (omega (arith, is.slot_room, is.legal.few)) w is_open s.plan.queue) opened)

-- one more cycle fits its number, if a window can be fetched
abbrev CyclesFit : Standing → Type 0
CyclesFit h = h.cycles + 2 ≤ 2 ^ 32

pub cycles-fit : (h : Standing) (s : State) → IsHistory h s → h.cycles + 2 ≤ 2 ^ 32
cycles-fit h s is = subst CyclesFit is.leaves
    (omega (arith, cycles-most s.entries, is.slot_room, is.legal.few))

pub one-held-each : (h : Standing) (s : State) → IsHistory h s → length h.receive ≡ length h.plan.buffers
one-held-each h s is = subst (λ (x : Standing). length x.receive ≡ length x.plan.buffers) is.leaves
    (length-map s.plan.buffers (held_in s.params s.entries))

-- ---- refusals

commit_faults : (s : State) (payload : List ℕ) (o : Option Buffer)
    → commit_fault s.params (is_host_full s) payload o ≡ unless_transmit s payload o
commit_faults s payload None = refl
commit_faults s payload (Some b) = refl

pub refusal-commit : (h : Standing) (s : State) (task buffer : ℕ) (payload : List ℕ) → IsHistory h s
    → commit_refused h task buffer payload ≡ commit_refusal s task buffer payload
refusal-commit h s task buffer payload is =
    ap (λ (x : Standing). commit_refused x task buffer payload) (sym is.leaves) ∙ by_task (nat_le s.plan.tasks task)
  where
    by_task : (t : Bool) → cond t (Some UnknownTask) (commit_fault s.params (is_host_full s) payload
        (buffer_at s.plan buffer)) ≡ cond t (Some UnknownTask) (unless_transmit s payload (buffer_at s.plan buffer))
    by_task t = ap (cond t (Some UnknownTask)) (commit_faults s payload (buffer_at s.plan buffer))

read_faults : (s : State) (o : Option Buffer) → read_fault (is_host_full s) o ≡ unless_receive s o
read_faults s None = refl
read_faults s (Some b) = refl

pub refusal-read : (h : Standing) (s : State) (task buffer : ℕ) → IsHistory h s
    → read_refused h task buffer ≡ read_refusal s task buffer
refusal-read h s task buffer is =
    ap (λ (x : Standing). read_refused x task buffer) (sym is.leaves) ∙ by_task (nat_le s.plan.tasks task)
  where
    by_task : (t : Bool) → cond t (Some UnknownTask) (read_fault (is_host_full s) (buffer_at s.plan buffer)) ≡ cond t
        (Some UnknownTask) (unless_receive s (buffer_at s.plan buffer))
    by_task t = ap (cond t (Some UnknownTask)) (read_faults s (buffer_at s.plan buffer))

pub refusal-fetch : (h : Standing) (s : State) (window : Opportunity) → IsHistory h s
    → fetch_refused h window ≡ fetch_refusal s window
refusal-fetch h s window is = ap (λ (x : Standing). fetch_refused x window) (sym is.leaves)

pub refusal-observe : (h : Standing) (s : State) (n : ℕ) → IsHistory h s → observe_refused h n ≡ observe_refusal s n
refusal-observe h s n is = ap (λ (x : Standing). observe_refused x n) (sym is.leaves)

sending_faults : (s : State) (o : Option Buffer) → sending_fault (is_host_full s) o ≡ unless_sending s o
sending_faults s None = refl
sending_faults s (Some b) = refl

pub refusal-withdraw : (h : Standing) (s : State) (task buffer : ℕ) → IsHistory h s
    → withdraw_refused h task buffer ≡ withdraw_refusal s task buffer
refusal-withdraw h s task buffer is =
    ap (λ (x : Standing). withdraw_refused x task buffer) (sym is.leaves) ∙ by_task (nat_le s.plan.tasks task)
  where
    by_task : (t : Bool) → cond t (Some UnknownTask) (sending_fault (is_host_full s) (buffer_at s.plan buffer)) ≡ cond t
        (Some UnknownTask) (unless_sending s (buffer_at s.plan buffer))
    by_task t = ap (cond t (Some UnknownTask)) (sending_faults s (buffer_at s.plan buffer))

queue_faults : (s : State) (o : Option Queue) → queue_fault (is_host_full s) o ≡ unless_queued s o
queue_faults s None = refl
queue_faults s (Some q) = refl

pub refusal-pop : (h : Standing) (s : State) (task : ℕ) → IsHistory h s → pop_refused h task ≡ pop_refusal s task
refusal-pop h s task is =
    ap (λ (x : Standing). pop_refused x task) (sym is.leaves) ∙ by_task (nat_le s.plan.tasks task)
  where
    by_task : (t : Bool) → cond t (Some UnknownTask) (queue_fault (is_host_full s) s.plan.queue) ≡ cond t
        (Some UnknownTask) (unless_queued s s.plan.queue)
    by_task t = ap (cond t (Some UnknownTask)) (queue_faults s s.plan.queue)

-- ---- answers

source_by_line : (s : State) (number : ℕ) (o : Option Buffer) → buffer_at s.plan number ≡ o
    → option_and_then (source_where (standing_of s) number) o ≡ source_of s number
source_by_line s number None there = sym (ap (option_and_then (source_by s number)) there)
source_by_line s number (Some b) there = by_mode (is_receive b.mode) refl
  where
    by_mode : (t : Bool) → is_receive b.mode ≡ t → cond t (option_map (λ (a : Arrival). source.Observed (origin_of a))
        (held_at (standing_of s) number)) (option_map source.Commit
        (option_and_then entry_of (slice_get (standing_of s).transmit number))) ≡ source_of s number
    by_mode true receives = observed-place s number b there (standing_of s).receive refl receives
    by_mode false transmits = commit-place s number b there (standing_of s).transmit refl transmits

pub answer-held : (h : Standing) (s : State) (number : ℕ) → IsHistory h s → source_at h number ≡ source_of s number
answer-held h s number is = subst (λ (x : Standing). source_at x number ≡ source_of s number) is.leaves
    (source_by_line s number (buffer_at s.plan number) refl)

tally_by_line : (s : State) (number : ℕ) (o : Option Buffer) → buffer_at s.plan number ≡ o
    → option_and_then (tally_where (standing_of s) number) o ≡ tally_by s number
tally_by_line s number None there = sym (ap (option_and_then (tally_in s number)) there)
tally_by_line s number (Some b) there = by_mode (is_receive b.mode) refl
  where
    by_mode : (t : Bool) → is_receive b.mode ≡ t → cond t None
        (option_map (λ (x : Transmitter). x.tally) (slice_get (standing_of s).transmit number)) ≡ tally_by s number
    by_mode true receives = sym (ap (option_and_then (tally_in s number)) there ∙ ap
        (λ (t : Bool). cond t None (Some (tally_of number s.entries))) receives)
    by_mode false transmits = tally-place s number b there (standing_of s).transmit refl transmits

pub answer-tally : (h : Standing) (s : State) (number : ℕ) → IsHistory h s → tally_at h number ≡ tally_by s number
answer-tally h s number is = subst (λ (x : Standing). tally_at x number ≡ tally_by s number) is.leaves
    (tally_by_line s number (buffer_at s.plan number) refl)

received_by_line : (s : State) (number : ℕ) (o : Option Buffer) → buffer_at s.plan number ≡ o
    → option_and_then (received_where (standing_of s) number) o ≡ received_by s number
received_by_line s number None there = sym (ap (option_and_then (received_in s)) there)
received_by_line s number (Some b) there = by_mode (is_receive b.mode) refl
  where
    by_mode : (t : Bool) → is_receive b.mode ≡ t → cond t (held_at (standing_of s) number) None ≡ received_by s number
    by_mode true receives = received-place s number (standing_of s).receive refl
    by_mode false transmits = sym (ap (option_and_then (received_in s)) there ∙ ap
        (λ (t : Bool). cond t (held s.params b.filter s.entries) None) transmits)

pub answer-received : (h : Standing) (s : State) (number : ℕ) → IsHistory h s
    → received_at h number ≡ received_by s number
answer-received h s number is = subst (λ (x : Standing). received_at x number ≡ received_by s number) is.leaves
    (received_by_line s number (buffer_at s.plan number) refl)

pub answer-length : (h : Standing) (s : State) → IsHistory h s
    → option_map (λ (w : Waiting). length w.frames) h.queue ≡ length_of s
answer-length h s is = length-place s h.queue (sym (ap (λ (x : Standing). x.queue) is.leaves))

pub answer-counters : (h : Standing) (s : State) → IsHistory h s → h.counters ≡ counters_of s.params s.entries
answer-counters h s is = sym (ap (λ (x : Standing). x.counters) is.leaves)

-- ---- the room that a plan gives has no other effect

module _ (p : Plan) (host slot : ℕ) where
  sender-limits : (l : List Transmitter) (w : Opportunity) (channel : Channel)
      → sender_on (with_limits p host slot) l w channel ≡ sender_on p l w channel
  sender-limits l w A = by_slot w.a
    where
      by_slot : (o : Option ℕ) → sender_in (with_limits p host slot) l w A o ≡ sender_in p l w A o
      by_slot None = refl
      by_slot (Some n) = refl
  sender-limits l w B = by_slot w.b
    where
      by_slot : (o : Option ℕ) → sender_in (with_limits p host slot) l w B o ≡ sender_in p l w B o
      by_slot None = refl
      by_slot (Some n) = refl

  pub outgoing-limits : (l : List Transmitter) (w : Opportunity) (channel : Channel)
      → outgoing_on (with_limits p host slot) l w channel ≡ outgoing_on p l w channel
  outgoing-limits l w channel = λ i. record {
    sender = sender-limits l w channel i;
    own = owner_on p w channel;
    offered = offered_by w channel (owner_on p w channel) (sender-limits l w channel i);
  }

  frame_at-limits : (params : Parameters) (l : List Transmitter) (w : Opportunity) (channel : Channel) (n : ℕ)
      (own : Option Own) (sender : Option Sender)
      → frame_at params (with_limits p host slot) l w channel n own sender ≡ frame_at params p l w channel n own sender
  frame_at-limits params l w channel n own None = refl
  frame_at-limits params l w channel n own (Some sender) = refl

  pub frame-limits : (params : Parameters) (l : List Transmitter) (w : Opportunity) (channel : Channel)
      (outgoing : Outgoing)
      → frame_by params (with_limits p host slot) l w channel outgoing ≡ frame_by params p l w channel outgoing
  frame-limits params l w channel outgoing = by_slot (slot_of w channel)
    where
      by_slot : (o : Option ℕ) → option_and_then (λ n. frame_at params
          (with_limits p host slot) l w channel n outgoing.own outgoing.sender) o
          ≡ option_and_then (λ n. frame_at params p l w channel n outgoing.own outgoing.sender) o
      by_slot None = refl
      by_slot (Some n) = frame_at-limits params l w channel n outgoing.own outgoing.sender

  pub arrivals-limits : (moment : Moment) (w : Opportunity) (a b : Option Fields) (q : Option Queue)
      (waiting : Option Waiting)
      → with_arrivals (with_limits p host slot) moment w a b q waiting ≡ with_arrivals p moment w a b q waiting
  arrivals-limits moment w a b None waiting = refl
  arrivals-limits moment w a b (Some q) waiting = refl

-- the offer of a fetch
pub answer-outgoing : (h : Standing) (s : State) (window : Opportunity) (channel : Channel) → IsHistory h s
    → outgoing_on h.plan h.transmit window channel ≡ outgoing_in s window channel
answer-outgoing h s window channel is =
    sym (outgoing-limits h.plan h.host_limit h.slot_limit h.transmit window channel)
    ∙ sym (ap (λ (x : Standing). outgoing_on x.plan x.transmit window channel) is.leaves)

pub answer-offered : (h : Standing) (s : State) (window : Opportunity) (channel : Channel) → IsHistory h s
    → (outgoing_on h.plan h.transmit window channel).offered ≡ offered s.plan s.entries window channel
answer-offered h s window channel is = ap (λ (o : Outgoing). o.offered) (answer-outgoing h s window channel is)
    ∙ offered-place s.plan s.entries window channel

pub answer-frame : (h : Standing) (s : State) (window : Opportunity) (channel : Channel) → IsHistory h s
    → frame_by h.params h.plan h.transmit window channel (outgoing_on h.plan h.transmit window channel)
    ≡ frame_offered s.params s.plan s.entries window channel
answer-frame h s window channel is =
    sym (frame-limits h.plan h.host_limit h.slot_limit h.params h.transmit window channel
    (outgoing_on h.plan h.transmit window channel))
    ∙ ap (frame_by h.params (limited h).plan h.transmit window channel)
    (sym (outgoing-limits h.plan h.host_limit h.slot_limit h.transmit window channel))
    ∙ sym (ap (λ (x : Standing). frame_by x.params x.plan x.transmit window channel
    (outgoing_on x.plan x.transmit window channel)) is.leaves)
    ∙ frame-place s.plan s.entries s.params window channel

pub nothing-out : (h : Standing) (s : State) (window : Opportunity) (channel : Channel) → IsHistory h s
    → (outgoing_on h.plan h.transmit window channel).offered ≡ Nothing
    → frame_by h.params h.plan h.transmit window channel (outgoing_on h.plan h.transmit window channel) ≡ None
nothing-out h s window channel is nothing =
    answer-frame h s window channel is
    ∙ frame-nothing s.plan s.entries s.params window channel
    (sym (offered-place s.plan s.entries window channel) ∙ ap (λ (o : Outgoing). o.offered)
    (sym (answer-outgoing h s window channel is)) ∙ nothing)

pub received_receivable : (s : State) (number : ℕ) → AreEntries s.entries
    → IfSome (option_map frame_of (received_by s number)) IsReceivable
received_receivable s number are = by_line (buffer_at s.plan number)
  where
    by_test : (t : Bool) (f : Filter) → IfSome (option_map frame_of (cond t (held s.params f s.entries) None))
        IsReceivable
    by_test true f = held_is_receivable s.params f s.entries are
    by_test false f = tt

    by_line : (o : Option Buffer) → IfSome (option_map frame_of (option_and_then (received_in s) o)) IsReceivable
    by_line None = tt
    by_line (Some b) = by_test (is_receive b.mode) b.filter

-- the commit that an accepted withdraw finds
pub answer-pending : (h : Standing) (s : State) (task buffer : ℕ) (of : Option ℕ) → IsHistory h s
    → None ≡ withdraw_refused h task buffer → of ≡ pending_at h.transmit buffer → of ≡ pending_commit buffer s.entries
answer-pending h s task buffer of is none answer = answer ∙ by_line (buffer_at h.plan buffer) refl
  where
    refused : (t : Bool) → None ≡ cond t (Some UnknownTask) (Some UnknownBuffer) → ⊥
    refused true e = cc
    refused false e = cc

    by_line : (o : Option Buffer) → buffer_at h.plan buffer ≡ o
        → pending_at h.transmit buffer ≡ pending_commit buffer s.entries
    by_line None there = absurd (refused (nat_le h.plan.tasks task)
        (none ∙ ap (λ (o : Option Buffer). cond (nat_le h.plan.tasks task) (Some UnknownTask)
        (sending_fault (is_full h) o)) there))
    by_line (Some line) there = pending-there h s buffer line is there

pub observe-room : (h : Standing) (s : State) (n : ℕ) → IsHistory h s → observe_refused h n ≡ None
    → count_by is_slot s.entries + 1 ≤ s.plan.slot_entries
observe-room h s n is none = by_window (open_window s.entries) refl
  where
    refused : unless_open n None ≡ None → ⊥
    refused e = cc

    by_window : (o : Option Opportunity) → open_window s.entries ≡ o
        → count_by is_slot s.entries + 1 ≤ s.plan.slot_entries
    by_window None closed = absurd (refused (ap (unless_open n) (sym closed) ∙ ap
        (λ (x : Standing). observe_refused x n) is.leaves ∙ none))
    by_window (Some window) opened = room_for_observe s.params s.plan s.entries window is.legal.legal opened

pub length-within : (s : State) → IfSome (length_of s) (λ n. IfSome s.plan.queue (λ q. n ≤ q.capacity))
length-within s = by_queue s.plan.queue
  where
    by_queue : (o : Option Queue) → IfSome (option_map (queued_of s) o) (λ n. IfSome o (λ q. n ≤ q.capacity))
    by_queue None = tt
    by_queue (Some q) = queue_length-capacity q.capacity (moves s.params s.plan q s.entries)

pub lost-balance : (h : Standing) (s : State) → IsHistory h s
    → IfSome (option_map (λ (w : Waiting). w.lost) h.queue) (λ lost. IfSome s.plan.queue
    (λ q. arrived_of s q ≡ popped_of s + queued_of s q + lost))
lost-balance h s is = by_queue h.queue refl
  where
    by_queue : (o : Option Waiting) → h.queue ≡ o → IfSome (option_map (λ (w : Waiting). w.lost) o)
        (λ lost. IfSome s.plan.queue (λ q. arrived_of s q ≡ popped_of s + queued_of s q + lost))
    by_queue None none = tt
    by_queue (Some w) some = balance-place s h.queue (sym (ap (λ (x : Standing). x.queue) is.leaves)) is.legal.legal w
        some
