-- The call of a legal entry is accepted, and makes this entry again.
use Rattle.std.proofs.Common.{◌≡◌, ℕ, ◌+◌, ◌*◌, ◌<◌, true, false, eqb, leb, ltb, List, length, Option, Some, None, refl}
use Rattle.std.proofs.Common.{sym, ap, option_map}
use Rattle.std.specs.Prelude.{IfSome, IsSomeAnd, is_some, count_by}
use Rattle.std.specs.Option.{option_and_then}
use Rattle.std.proofs.lemmas.Bool.{and_parts, eqb-true, eq-eqb, lt-leb, le-ltb}
use Rattle.fr_journal.specs.Forms.{Entry}
use Rattle.fr_journal.specs.declared.entry.Entry.TheVariants.{Commit, Withdraw, Read, Pop, Fetch, Observe}
use Rattle.fr_journal.specs.declared.entry.Offered.{Offered}
use Rattle.fr_journal.specs.declared.entry.Offered.TheVariants.{Nothing, Null, Data}
use Rattle.fr_journal.specs.declared.entry.Origin.{Origin}
use Rattle.fr_journal.specs.Arrivals.{oldest, moves}
use Rattle.fr_journal.specs.Fate.{pending_commit}
use Rattle.fr_journal.specs.Held.{held, origin_of}
use Rattle.fr_journal.specs.Entries.{is_host, is_slot}
use Rattle.fr_journal.specs.Legal.{IsLegal, IsLegalCommit, IsLegalWithdraw, IsLegalRead, IsLegalPop, IsLegalFetch}
use Rattle.fr_journal.specs.Offers.{offered}
use Rattle.fr_journal.specs.OpenWindow.{open_window, last_number}
use Rattle.fr_interface.specs.State.{State, received_by, commit_refusal, unless_transmit, withdraw_refusal}
use Rattle.fr_interface.specs.State.{unless_sending, received_in, read_refusal}
use Rattle.fr_interface.specs.State.{unless_receive, pop_refusal, unless_queued, oldest_of, fetch_refusal}
use Rattle.fr_interface.specs.State.{observe_refusal, unless_open, is_not_above, is_host_full}
use Rattle.fr_slots.specs.declared.channel.Channel.{Channel}
use Rattle.fr_slots.specs.declared.channel.Channel.TheVariants.{A, B}
use Rattle.fr_slots.specs.declared.plan.Buffer.{Buffer}
use Rattle.fr_slots.specs.declared.plan.Queue.{Queue}
use Rattle.fr_slots.specs.Faults.{words_of}
use Rattle.fr_slots.specs.Plans.{is_receive, buffer_at}
use Rattle.fr_slots.specs.Windows.{Opportunity}
use Rattle.fr_trace.specs.Answers.{same_channel, same_number, same_origin, same_offered}
use Rattle.fr_trace.specs.Answers.{is_refused, made_by, is_answered, fault_of}

-- ---- answers that are equal

same_channel_is : (made told : Channel) → same_channel made told ≡ true → made ≡ told
same_channel_is A A h = refl
same_channel_is A B h = cc h
same_channel_is B A h = cc h
same_channel_is B B h = refl

channel_again : (c : Channel) → same_channel c c ≡ true
channel_again A = refl
channel_again B = refl

same_number_is : (made told : Option ℕ) → same_number made told ≡ true → made ≡ told
same_number_is None None h = refl
same_number_is None (Some told) h = cc h
same_number_is (Some made) None h = cc h
same_number_is (Some made) (Some told) h = ap (λ (n : ℕ). Some n) (eqb-true made told h)

number_again : (o : Option ℕ) → same_number o o ≡ true
number_again None = refl
number_again (Some n) = eq-eqb n n refl

same_origin_is : (made told : Option Origin) → same_origin made told ≡ true → made ≡ told
same_origin_is None None h = refl
same_origin_is None (Some told) h = cc h
same_origin_is (Some made) None h = cc h
same_origin_is (Some made) (Some told) h =
    let parts = and_parts (eqb made.entry told.entry) (same_channel made.channel told.channel) h in
    let entry : made.entry ≡ told.entry = eqb-true made.entry told.entry parts.0 in
    let channel : made.channel ≡ told.channel = same_channel_is made.channel told.channel parts.1 in
    λ i. Some (record { entry = entry i; channel = channel i })

origin_again : (o : Option Origin) → same_origin o o ≡ true
origin_again None = refl
origin_again (Some o) = rw (eq-eqb o.entry o.entry refl, channel_again o.channel) refl

same_offered_is : (made told : Offered) → same_offered made told ≡ true → made ≡ told
same_offered_is Nothing Nothing h = refl
same_offered_is Nothing Null h = cc h
same_offered_is Nothing (Data told) h = cc h
same_offered_is Null Nothing h = cc h
same_offered_is Null Null h = refl
same_offered_is Null (Data told) h = cc h
same_offered_is (Data made) Nothing h = cc h
same_offered_is (Data made) Null h = cc h
same_offered_is (Data made) (Data told) h = ap (λ (n : ℕ). Data n) (eqb-true made told h)

offered_again : (o : Offered) → same_offered o o ≡ true
offered_again Nothing = refl
offered_again Null = refl
offered_again (Data n) = eq-eqb n n refl

-- an entry whose answers are those of its call is the one that the call makes
pub made-answered : (s : State) (e : Entry) → is_answered s e ≡ true → made_by s e ≡ e
made-answered s (Commit task buffer payload) h = refl
made-answered s (Withdraw task buffer of) h = ap (Withdraw task buffer)
    (same_number_is (pending_commit buffer s.entries) of h)
made-answered s (Read task buffer from) h = ap (Read task buffer)
    (same_origin_is (option_map origin_of (received_by s buffer)) from h)
made-answered s (Pop task from) h = ap (Pop task) (same_origin_is (option_map origin_of (oldest_of s)) from h)
made-answered s (Fetch window a b) h =
    let parts = and_parts (same_offered (offered s.plan s.entries window A) a)
    (same_offered (offered s.plan s.entries window B) b) h in
    let offer_a = same_offered_is (offered s.plan s.entries window A) a parts.0 in
    let offer_b = same_offered_is (offered s.plan s.entries window B) b parts.1 in
    λ i. Fetch window (offer_a i) (offer_b i)
made-answered s (Observe window a b) h = refl

-- ---- the calls of legal entries

no_refusal : {E : Type 0} (o : Option E) → o ≡ None → is_some o ≡ false
no_refusal o h = ap is_some h

-- a legal commit

commit_taken : (s : State) (payload : List ℕ) (o : Option Buffer)
    → IsSomeAnd o (λ b. (is_receive b.mode ≡ false) × (length payload ≡ 2 * words_of s.params b))
    → is_host_full s ≡ false
    → unless_transmit s payload o ≡ None
commit_taken s payload None h room = absurd h
commit_taken s payload (Some b) h room = rw (h.0, eq-eqb (length payload) (2 * words_of s.params b) h.1, room) refl

legal_commit : (s : State) (task buffer : ℕ) (payload : List ℕ)
    → IsLegalCommit s.params s.plan s.entries task buffer payload → commit_refusal s task buffer payload ≡ None
legal_commit s task buffer payload legal =
    let few : leb s.plan.tasks task ≡ false = lt-leb s.plan.tasks task legal.task_is in
    let room : is_host_full s ≡ false = lt-leb s.plan.host_entries (count_by is_host s.entries) legal.room in
    rw few (commit_taken s payload (buffer_at s.plan buffer) legal.transmits room)

-- a legal withdraw

withdraw_taken : (s : State) (o : Option Buffer) → IsSomeAnd o (λ b. is_receive b.mode ≡ false) → is_host_full s ≡ false
    → unless_sending s o ≡ None
withdraw_taken s None h room = absurd h
withdraw_taken s (Some b) h room = rw (h, room) refl

legal_withdraw : (s : State) (task buffer : ℕ) (of : Option ℕ) → IsLegalWithdraw s.plan s.entries task buffer of
    → (is_refused s (Withdraw task buffer of) ≡ false) × (is_answered s (Withdraw task buffer of) ≡ true)
legal_withdraw s task buffer of legal =
    let few : leb s.plan.tasks task ≡ false = lt-leb s.plan.tasks task legal.task_is in
    let room : is_host_full s ≡ false = lt-leb s.plan.host_entries (count_by is_host s.entries) legal.room in (
      no_refusal (withdraw_refusal s task buffer) (rw few
          (withdraw_taken s (buffer_at s.plan buffer) legal.transmits room)),
      rw (← legal.found) (number_again of),
    )

-- a legal read

read_receives : (s : State) (o : Option Buffer) (from : Option Origin)
    → IsSomeAnd o (λ b. (is_receive b.mode ≡ true) × (from ≡ option_map origin_of (held s.params b.filter s.entries)))
    → is_host_full s ≡ false
    → (unless_receive s o ≡ None) × (option_map origin_of (option_and_then (received_in s) o) ≡ from)
read_receives s None from h room = absurd h
read_receives s (Some b) from h room = (rw (h.0, room) refl, rw h.0 (sym h.1))

legal_read : (s : State) (task buffer : ℕ) (from : Option Origin)
    → IsLegalRead s.params s.plan s.entries task buffer from
    → (is_refused s (Read task buffer from) ≡ false) × (is_answered s (Read task buffer from) ≡ true)
legal_read s task buffer from legal =
    let few : leb s.plan.tasks task ≡ false = lt-leb s.plan.tasks task legal.task_is in
    let room : is_host_full s ≡ false = lt-leb s.plan.host_entries (count_by is_host s.entries) legal.room in
    let there = read_receives s (buffer_at s.plan buffer) from legal.receives room in
    (no_refusal (read_refusal s task buffer) (rw few there.0), rw there.1 (origin_again from))

-- a legal pop

pop_queued : (s : State) (o : Option Queue) (from : Option Origin)
    → IsSomeAnd o (λ q. from ≡ option_map origin_of (oldest q.capacity (moves s.params s.plan q s.entries)))
    → is_host_full s ≡ false
    → (unless_queued s o ≡ None) × (option_map origin_of (option_and_then
    (λ q. oldest q.capacity (moves s.params s.plan q s.entries)) o) ≡ from)
pop_queued s None from h room = absurd h
pop_queued s (Some q) from h room = (rw room refl, sym h)

legal_pop : (s : State) (task : ℕ) (from : Option Origin) → IsLegalPop s.params s.plan s.entries task from
    → (is_refused s (Pop task from) ≡ false) × (is_answered s (Pop task from) ≡ true)
legal_pop s task from legal =
    let few : leb s.plan.tasks task ≡ false = lt-leb s.plan.tasks task legal.task_is in
    let room : is_host_full s ≡ false = lt-leb s.plan.host_entries (count_by is_host s.entries) legal.room in
    let there = pop_queued s s.plan.queue from legal.queued room in
    (no_refusal (pop_refusal s task) (rw few there.0), rw there.1 (origin_again from))

-- a legal fetch

not_above : (number : ℕ) (last : Option ℕ) → IfSome last (λ n. n < number) → is_not_above number last ≡ false
not_above number None h = refl
not_above number (Some n) h = lt-leb number n h

legal_fetch : (s : State) (window : Opportunity) (a b : Offered) → IsLegalFetch s.params s.plan s.entries window a b
    → (is_refused s (Fetch window a b) ≡ false) × (is_answered s (Fetch window a b) ≡ true)
legal_fetch s window a b legal =
    let above : is_not_above window.number (last_number s.entries) ≡ false =
    not_above window.number (last_number s.entries) legal.later in
    let room : ltb s.plan.slot_entries (count_by is_slot s.entries + 2) ≡ false =
    le-ltb s.plan.slot_entries (count_by is_slot s.entries + 2) legal.room in (
      no_refusal (fetch_refusal s window) (rw (legal.closed, legal.fits, above, room) refl),
      rw (← legal.offer_a, ← legal.offer_b, offered_again a, offered_again b) refl,
    )

-- a legal observe

closes : (number : ℕ) (o : Option Opportunity) → IsSomeAnd o (λ w. w.number ≡ number) → unless_open number o ≡ None
closes number None h = absurd h
closes number (Some w) h = rw (eq-eqb w.number number h) refl

pub legal_accepted : (s : State) (e : Entry) → IsLegal s.params s.plan s.entries e
    → (is_refused s e ≡ false) × (is_answered s e ≡ true)
legal_accepted s (Commit task buffer payload) legal = (
  no_refusal (commit_refusal s task buffer payload)
      (legal_commit s task buffer payload legal),
  refl,
)
legal_accepted s (Withdraw task buffer of) legal = legal_withdraw s task buffer of legal
legal_accepted s (Read task buffer from) legal = legal_read s task buffer from legal
legal_accepted s (Pop task from) legal = legal_pop s task from legal
legal_accepted s (Fetch window a b) legal = legal_fetch s window a b legal
legal_accepted s (Observe window a b) legal = (
  no_refusal (observe_refusal s window)
      (closes window (open_window s.entries) legal),
  refl,
)

pub no_fault : (line : ℕ) (s : State) (e : Entry) → IsLegal s.params s.plan s.entries e → fault_of line s e ≡ None
no_fault line s e legal = let fine = legal_accepted s e legal in rw (fine.0, fine.1) refl
