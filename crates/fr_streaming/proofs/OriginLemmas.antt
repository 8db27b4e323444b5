-- The cycles of the run in which the frames of calls came, and the lines that have them.
use Rattle.std.proofs.Common.{◌≡◌, ℕ, zero, suc, ◌<◌, ◌≤◌, List, [], ◌∷◌, ◌++◌, length, take, slice_get, Option, Some}
use Rattle.std.proofs.Common.{None, refl, sym, ap, ap₂, ◌∙◌, inl, inr, arith, length-append}
use Rattle.std.specs.List.{flat_map}
use Rattle.std.specs.Option.{option_and_then}
use Rattle.std.specs.Prelude.{option_map, slice_index_or, IfSome}
use Rattle.fr_core.proofs.ReceiverLemmas.{holds_is_seen}
use Rattle.fr_core.specs.Receivers.{Holds}
use Rattle.fr_core.specs.Steps.{event_of}
use Rattle.fr_core.specs.Worlds.{interface_at, no_interface, WorldState}
use Rattle.fr_interface.specs.Calls.{call_answer, call_entry}
use Rattle.fr_interface.specs.declared.call.Call.{Call}
use Rattle.fr_interface.specs.declared.call.Call.TheVariants as host_call
use Rattle.fr_interface.specs.State.{oldest_of, received_by, State}
use Rattle.fr_journal.specs.Arrivals.{moves, oldest}
use Rattle.fr_journal.specs.Cycles.{run_cycle}
use Rattle.fr_journal.specs.declared.entry.Arrival.{Arrival}
use Rattle.fr_journal.specs.declared.entry.Origin.{Origin}
use Rattle.fr_journal.specs.Forms.{Entry}
use Rattle.fr_journal.specs.Held as held
use Rattle.fr_playing.proofs.EntryLemmas.{host_there}
use Rattle.fr_playing.specs.Calls.{asked_of, DoesCall}
use Rattle.fr_playing.specs.declared.call.ExecutedCall.{ExecutedCall}
use Rattle.fr_showing.specs.AnswerText.{came_answered, came_at, came_in, came_line, channel_in, origin_line, origin_of}
use Rattle.fr_slots.specs.declared.channel.Channel.{Channel}
use Rattle.fr_slots.specs.declared.plan.Queue.{Queue}
use Rattle.fr_streaming.proofs.KeptLemmas.{call_there, channel_kept, executes_keeps, kept_then, step_keeps}
use Rattle.fr_streaming.proofs.KeptLemmas.{IsKept}
use Rattle.fr_streaming.specs.Streams.{Executes}

-- ---- a held frame

front : {X : Type 0} (xs ys : List X) → take (length xs) (xs ++ ys) ≡ xs
front [] ys = refl
front (x ∷ xs) ys = ap (λ (l : List _). x ∷ l) (front xs ys)

-- it came in the cycle of its entry
came_there : (s : State) (a : Arrival) → Holds s a → a.cycle ≡ run_cycle (take a.origin.entry s.entries)
came_there s a holds =
    let c = holds_is_seen s a holds in
    let before : take a.origin.entry s.entries ≡ c.inner =
    ap (λ (i : ℕ). take i s.entries) c.holds.brought.entry_is
    ∙ ap (λ (l : List Entry). take (length c.inner) l) c.cut ∙ front c.inner (c.here ∷ c.after) in
    c.holds.brought.cycle_is ∙ ap run_cycle (sym before)

-- and its entry is in the journal
place_there : (s : State) (a : Arrival) → Holds s a → a.origin.entry ≤ length s.entries
place_there s a holds =
    let c = holds_is_seen s a holds in
    omega (
      arith,
      c.holds.brought.entry_is,
      ap (λ (l : List Entry). length l) c.cut,
      length-append c.inner (c.here ∷ c.after),
    )

oldest_held : (s : State) (q : Option Queue) (a : Arrival) → s.plan.queue ≡ q → oldest_of s ≡ Some a → Holds s a
oldest_held s None a is held =
    absurd (let none : ⊥ = (let no : ◌≡◌ {A = Option Arrival} None (Some a) =
    sym (ap (option_and_then (λ x. oldest x.capacity (moves s.params s.plan x s.entries))) is) ∙ held in cc) in none)
oldest_held s (Some q) a is held =
    inr (q, 0, is, sym (ap (option_and_then (λ x. oldest x.capacity (moves s.params s.plan x s.entries))) is) ∙ held)

-- ---- the answer of a call

abbrev AreHeld : State → Option Arrival → Type 0
AreHeld s o = (a : Arrival) → o ≡ Some a → Holds s a

came_of : (s : State) (o : Option Arrival) → AreHeld s o
    → option_map (λ (a : Arrival). a.cycle) o
    ≡ option_map (λ (origin : Origin). run_cycle (take origin.entry s.entries)) (option_map held.origin_of o)
came_of s None holds = refl
came_of s (Some a) holds = ap Some (came_there s a (holds a refl))

-- the cycle in the answer is that of the origin in the entry
pub came_told : (s : State) (task : ℕ) (call : Call)
    → came_answered (call_answer s task call) ≡ came_at s.entries (Some (call_entry s task call))
came_told s task (host_call.Commit buffer payload) = refl
came_told s task (host_call.Withdraw buffer) = refl
came_told s task (host_call.Read buffer) = came_of s (received_by s buffer) (λ a is. inl (buffer, is))
came_told s task host_call.Pop = came_of s (oldest_of s) (λ a is. oldest_held s s.plan.queue a refl is)

abbrev IsPlaced : List Entry → Option Origin → Type 0
IsPlaced entries o = IfSome o (λ (origin : Origin). origin.entry ≤ length entries)

placed_of : (s : State) (o : Option Arrival) → AreHeld s o → IsPlaced s.entries (option_map held.origin_of o)
placed_of s None holds = tt
placed_of s (Some a) holds = place_there s a (holds a refl)

-- the origin in the entry is an earlier entry
placed : (s : State) (task : ℕ) (call : Call) → IsPlaced s.entries (origin_of (call_entry s task call))
placed s task (host_call.Commit buffer payload) = tt
placed s task (host_call.Withdraw buffer) = tt
placed s task (host_call.Read buffer) = placed_of s (received_by s buffer) (λ a is. inl (buffer, is))
placed s task host_call.Pop = placed_of s (oldest_of s) (λ a is. oldest_held s s.plan.queue a refl is)

-- ---- a later journal

-- each element stays
abbrev Stays : {X : Type 0} → List X → List X → Type 0
Stays {X = X} xs ys = (i : ℕ) (x : X) → slice_get xs i ≡ Some x → slice_get ys i ≡ Some x

take_kept : {X : Type 0} (xs ys : List X) (k : ℕ) → Stays xs ys → k ≤ length xs → take k ys ≡ take k xs
take_kept xs ys zero stays le = refl
take_kept [] ys (suc k) stays le = absurd (let none : ⊥ = omega (arith, le) in none)
take_kept (x ∷ xs) [] (suc k) stays le = absurd (let none : ⊥ = cc (stays 0 x refl) in none)
take_kept {X = X} (x ∷ xs) (y ∷ ys) (suc k) stays le =
    let same : y ≡ x = cc (stays 0 x refl) in
    ap₂ (λ (z : X) (zs : List X). z ∷ zs) same
    (take_kept xs ys k (λ i z is. stays (suc i) z is) (omega (arith, le)))

came_same : (xs ys : List Entry) (o : Option Origin) → Stays xs ys → IsPlaced xs o
    → option_map (λ (origin : Origin). run_cycle (take origin.entry ys)) o
    ≡ option_map (λ (origin : Origin). run_cycle (take origin.entry xs)) o
came_same xs ys None stays in_front = refl
came_same xs ys (Some origin) stays in_front =
    ap (λ (l : List Entry). Some (run_cycle l)) (take_kept xs ys origin.entry stays in_front)

abbrev got_from : Option State → ℕ → Option Entry
got_from o number = option_and_then (λ (s : State). slice_get s.entries number) o

came_from : (o : Option State) (xs : List Entry) (number : ℕ) (x : Entry) → got_from o number ≡ Some x
    → ((i : ℕ) (e : Entry) → slice_get xs i ≡ Some e → got_from o i ≡ Some e) → IsPlaced xs (origin_of x)
    → came_in o number ≡ came_at xs (Some x)
came_from None xs number x there stays in_front = absurd (let none : ⊥ = cc there in none)
came_from (Some t) xs number x there stays in_front =
    ap (came_at t.entries) there ∙ came_same xs t.entries (origin_of x) stays in_front

here_at : (ss : List State) (n : ℕ) → n < length ss → slice_get ss n ≡ Some (slice_index_or ss n no_interface)
here_at [] n lt = absurd (let none : ⊥ = omega (arith, lt) in none)
here_at (s ∷ ss) zero lt = refl
here_at (s ∷ ss) (suc n) lt = here_at ss n (omega (arith, lt))

-- the cycle of the frame of a call that was executed, in a later world
pub came_kept : (w : WorldState) (call : ExecutedCall) (v u : WorldState) → DoesCall w call v
    → IsKept v.interfaces u.interfaces → came_in (slice_get u.interfaces call.node) call.entry
    ≡ came_at (interface_at w call.node).entries
    (Some (call_entry (interface_at w call.node) call.task call.call))
came_kept w call v u does kept =
    let n = call.node in
    let s = interface_at w n in
    let x = call_entry s call.task call.call in
    let within = host_there w n call.task call.call does.0.0 in
    came_from (slice_get u.interfaces n) s.entries call.entry x (kept n call.entry x (call_there w call v does))
    (λ i e is. kept n i e (step_keeps w (event_of n call.task call.call) call.reply v does.0 n i e
    (ap (λ (o : Option State). got_from o i) (here_at w.interfaces n within) ∙ is)))
    (placed s call.task call.call)

-- ---- lines

pub origins_kept : (w : WorldState) (calls : List ExecutedCall) (v u : WorldState) → Executes w calls v
    → IsKept v.interfaces u.interfaces → flat_map (origin_line v) calls ≡ flat_map (origin_line u) calls
unfolding Executes
origins_kept w [] v u executes kept = refl
origins_kept w (call ∷ calls) v u executes kept =
    let (before, after, silent, does, rest) = executes in
    let later = executes_keeps after calls v rest in
    let whole = kept_then after.interfaces v.interfaces u.interfaces later kept in
    let channel : channel_in (slice_get v.interfaces call.node) call.entry
    ≡ channel_in (slice_get u.interfaces call.node) call.entry =
    channel_kept before call after v does later ∙ sym (channel_kept before call after u does whole) in
    let came : came_in (slice_get v.interfaces call.node) call.entry
    ≡ came_in (slice_get u.interfaces call.node) call.entry =
    came_kept before call after v does later ∙ sym (came_kept before call after u does whole) in
    ap₂ (λ (line rest : List ℕ). line ++ rest)
    (ap₂ (λ (c : Option ℕ) (on : Option Channel). came_line c on (asked_of call) call.reply) came channel)
    (origins_kept after calls v u rest kept)
