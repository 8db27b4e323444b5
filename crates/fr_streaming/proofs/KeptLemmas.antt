-- The entries of journals stay, and so do the lines of answers.
use Rattle.std.proofs.Common.{◌≡◌, ℕ, zero, suc, ◌<◌, List, [], ◌∷◌, ◌++◌, length, slice_get, Option, Some, None}
use Rattle.std.proofs.Common.{Ok, refl, sym, ap, ap₂, subst, ◌∙◌, arith}
use Rattle.std.specs.List.{flat_map}
use Rattle.std.specs.Option.{option_and_then}
use Rattle.std.specs.Prelude.{option_map, slice_index_or, slice_set}
use Rattle.fr_core.specs.Carried.{Carried, Idle, Knows, Offers, Waits, Took}
use Rattle.fr_core.specs.declared.event.Event.{Event}
use Rattle.fr_core.specs.declared.event.Event.TheVariants.{Commit, Withdraw, Read, Pop, Look, Fetch, Put, Take}
use Rattle.fr_core.specs.declared.event.Event.TheVariants.{Observe, Inject, Seal, Advance}
use Rattle.fr_core.specs.declared.event.Reply.{Reply}
use Rattle.fr_core.specs.Steps.{event_of, fetched, looked, observed, put_on_bus, step_done, taken, Steps}
use Rattle.fr_core.specs.Worlds.{carried_at, interface_at, no_interface, WorldState}
use Rattle.fr_bus.specs.States.{collecting_of}
use Rattle.fr_interface.specs.Calls.{call_answer, call_entry}
use Rattle.fr_interface.specs.declared.call.Call.{Call}
use Rattle.fr_interface.specs.declared.call.Call.TheVariants as host_call
use Rattle.fr_interface.specs.State.{oldest_of, received_by, State, with_entry}
use Rattle.fr_journal.specs.declared.entry.Arrival.{Arrival}
use Rattle.fr_journal.specs.declared.entry.Origin.{Origin}
use Rattle.fr_journal.specs.Forms.{Entry}
use Rattle.fr_journal.specs.Held.{origin_of}
use Rattle.fr_playing.proofs.EntryLemmas.{host_there}
use Rattle.fr_playing.specs.Calls.{asked_of, entries_in, DoesCall}
use Rattle.fr_playing.specs.declared.call.ExecutedCall.{ExecutedCall}
use Rattle.fr_playing.specs.Striking.{Passes}
use Rattle.fr_showing.specs.AnswerText.{answer_line, channel_answered, channel_at, channel_in, reply_line}
use Rattle.fr_slots.proofs.PlaceLemmas.{get-after, get-append}
use Rattle.fr_slots.specs.declared.channel.Channel.{Channel}
use Rattle.fr_slots.specs.Windows.{Opportunity}
use Rattle.fr_streaming.specs.Streams.{Executes}

-- ---- journals

-- the entry of this number in the node's journal
abbrev pub entry_in : List State → ℕ → ℕ → Option Entry
entry_in ss n number = option_and_then (λ (s : State). slice_get s.entries number) (slice_get ss n)

-- each entry stays
abbrev pub IsKept : List State → List State → Type 0
IsKept old new = (n number : ℕ) (e : Entry) → entry_in old n number ≡ Some e → entry_in new n number ≡ Some e

pub kept_same : (ss : List State) → IsKept ss ss
kept_same ss n number e there = there

pub kept_then : (ss ts us : List State) → IsKept ss ts → IsKept ts us → IsKept ss us
kept_then ss ts us first second n number e there = second n number e (first n number e there)

-- a journal with one more entry
kept_more : (ss : List State) (m : ℕ) (x : Entry) (n number : ℕ) (e : Entry) → entry_in ss n number ≡ Some e
    → entry_in (slice_set ss m (with_entry (slice_index_or ss m no_interface) x)) n number ≡ Some e
kept_more [] m x n number e there = cc
kept_more (s ∷ ss) zero x zero number e there = get-append s.entries (x ∷ []) number e there
kept_more (s ∷ ss) zero x (suc n) number e there = there
kept_more (s ∷ ss) (suc m) x zero number e there = there
kept_more (s ∷ ss) (suc m) x (suc n) number e there = kept_more ss m x n number e there

-- the new entry
added : (ss : List State) (n : ℕ) (x : Entry) → n < length ss
    → entry_in (slice_set ss n (with_entry (slice_index_or ss n no_interface) x)) n (entries_in (slice_get ss n))
    ≡ Some x
added [] n x lt = absurd (let none : ⊥ = omega (arith, lt) in none)
added (s ∷ ss) zero x lt = get-after s.entries [] x
added (s ∷ ss) (suc n) x lt = added ss n x (omega (arith, lt))

-- ---- events

module _ (w : WorldState) (n : ℕ) where
  looked_keeps : (o : Option Opportunity) → IsKept w.interfaces (looked w n o).interfaces
  looked_keeps None = kept_same w.interfaces
  looked_keeps (Some window) = kept_same w.interfaces

  fetched_keeps : (c : Carried) → IsKept w.interfaces (fetched w n c).interfaces
  fetched_keeps Idle = kept_same w.interfaces
  fetched_keeps (Knows window) = kept_more w.interfaces n _
  fetched_keeps (Offers window offer) = kept_same w.interfaces
  fetched_keeps (Waits window) = kept_same w.interfaces
  fetched_keeps (Took window a b) = kept_same w.interfaces

  put_keeps : (c : Carried) → IsKept w.interfaces (put_on_bus w n c).interfaces
  put_keeps Idle = kept_same w.interfaces
  put_keeps (Knows window) = kept_same w.interfaces
  put_keeps (Offers window offer) = kept_same w.interfaces
  put_keeps (Waits window) = kept_same w.interfaces
  put_keeps (Took window a b) = kept_same w.interfaces

  taken_keeps : (c : Carried) → IsKept w.interfaces (taken w n c).interfaces
  taken_keeps Idle = kept_same w.interfaces
  taken_keeps (Knows window) = kept_same w.interfaces
  taken_keeps (Offers window offer) = kept_same w.interfaces
  taken_keeps (Waits window) = kept_same w.interfaces
  taken_keeps (Took window a b) = kept_same w.interfaces

  observed_keeps : (c : Carried) → IsKept w.interfaces (observed w n c).interfaces
  observed_keeps Idle = kept_same w.interfaces
  observed_keeps (Knows window) = kept_same w.interfaces
  observed_keeps (Offers window offer) = kept_same w.interfaces
  observed_keeps (Waits window) = kept_same w.interfaces
  observed_keeps (Took window a b) = kept_more w.interfaces n _

done_keeps : (w : WorldState) (event : Event) → IsKept w.interfaces (step_done w event).interfaces
done_keeps w (Commit n task buffer payload) = kept_more w.interfaces n _
done_keeps w (Withdraw n task buffer) = kept_more w.interfaces n _
done_keeps w (Read n task buffer) = kept_more w.interfaces n _
done_keeps w (Pop n task) = kept_more w.interfaces n _
done_keeps w (Look n) = looked_keeps w n (collecting_of w.bus)
done_keeps w (Fetch n) = fetched_keeps w n (carried_at w n)
done_keeps w (Put n) = put_keeps w n (carried_at w n)
done_keeps w (Take n) = taken_keeps w n (carried_at w n)
done_keeps w (Observe n) = observed_keeps w n (carried_at w n)
done_keeps w (Inject fault) = kept_same w.interfaces
done_keeps w Seal = kept_same w.interfaces
done_keeps w Advance = kept_same w.interfaces

pub step_keeps : (w : WorldState) (event : Event) (reply : Reply) (v : WorldState) → Steps w event (Ok reply) v
    → IsKept w.interfaces v.interfaces
step_keeps w event reply v step =
    subst (λ (u : WorldState). IsKept w.interfaces u.interfaces) (sym step.2) (done_keeps w event)

passes_keeps : (w : WorldState) (events : List Event) (v : WorldState) → Passes w events v
    → IsKept w.interfaces v.interfaces
unfolding Passes
passes_keeps w [] v passes =
    subst (λ (u : WorldState). IsKept w.interfaces u.interfaces) (sym passes) (kept_same w.interfaces)
passes_keeps w (event ∷ events) v passes =
    let (u, reply, step, rest) = passes in
    kept_then w.interfaces u.interfaces v.interfaces (step_keeps w event reply u step) (passes_keeps u events v rest)

pub executes_keeps : (w : WorldState) (calls : List ExecutedCall) (v : WorldState) → Executes w calls v
    → IsKept w.interfaces v.interfaces
unfolding Executes
executes_keeps w [] v executes = passes_keeps w executes.0 v executes.2
executes_keeps w (call ∷ calls) v executes =
    let (before, after, silent, does, rest) = executes in
    kept_then w.interfaces before.interfaces v.interfaces (passes_keeps w silent.0 before silent.2)
    (kept_then before.interfaces after.interfaces v.interfaces
    (step_keeps before (event_of call.node call.task call.call) call.reply after does.0)
    (executes_keeps after calls v rest))

-- ---- the entry of a call

call_done : (w : WorldState) (n task : ℕ) (call : Call) → (step_done w (event_of n task call)).interfaces
    ≡ slice_set w.interfaces n (with_entry (interface_at w n) (call_entry (interface_at w n) task call))
call_done w n task (host_call.Commit buffer payload) = refl
call_done w n task (host_call.Withdraw buffer) = refl
call_done w n task (host_call.Read buffer) = refl
call_done w n task host_call.Pop = refl

pub call_there : (w : WorldState) (call : ExecutedCall) (v : WorldState) → DoesCall w call v
    → entry_in v.interfaces call.node call.entry
    ≡ Some (call_entry (interface_at w call.node) call.task call.call)
call_there w call v does =
    let n = call.node in
    let x = call_entry (interface_at w n) call.task call.call in
    ap₂ (λ (ss : List State) (number : ℕ). entry_in ss n number)
    (ap (λ (u : WorldState). u.interfaces) does.0.2 ∙ call_done w n call.task call.call) does.1
    ∙ added w.interfaces n x (host_there w n call.task call.call does.0.0)

-- ---- lines

channel_named : (o : Option State) (number : ℕ)
    → channel_in o number ≡ channel_at (option_and_then (λ (s : State). slice_get s.entries number) o)
channel_named None number = refl
channel_named (Some s) number = refl

-- the channel of the frame of a call that was executed, in a later world
pub channel_kept : (w : WorldState) (call : ExecutedCall) (v u : WorldState) → DoesCall w call v
    → IsKept v.interfaces u.interfaces → channel_in (slice_get u.interfaces call.node) call.entry
    ≡ channel_at (Some (call_entry (interface_at w call.node) call.task call.call))
channel_kept w call v u does kept =
    let x = call_entry (interface_at w call.node) call.task call.call in
    channel_named (slice_get u.interfaces call.node) call.entry
    ∙ ap channel_at (kept call.node call.entry x (call_there w call v does))

pub lines_kept : (w : WorldState) (calls : List ExecutedCall) (v u : WorldState) → Executes w calls v
    → IsKept v.interfaces u.interfaces → flat_map (answer_line v) calls ≡ flat_map (answer_line u) calls
unfolding Executes
lines_kept w [] v u executes kept = refl
lines_kept w (call ∷ calls) v u executes kept =
    let (before, after, silent, does, rest) = executes in
    let later = executes_keeps after calls v rest in
    let same : channel_in (slice_get v.interfaces call.node) call.entry
    ≡ channel_in (slice_get u.interfaces call.node) call.entry =
    channel_kept before call after v does later
    ∙ sym (channel_kept before call after u does
    (kept_then after.interfaces v.interfaces u.interfaces later kept)) in
    ap₂ (λ (channel : Option Channel) (rest : List ℕ). reply_line channel (asked_of call) call.reply ++ rest) same
    (lines_kept after calls v u rest kept)

-- ---- an answer of an interface

arrived : (a : Option Arrival) → option_map (λ (x : Arrival). x.origin.channel) a
    ≡ option_map (λ (o : Origin). o.channel) (option_map origin_of a)
arrived None = refl
arrived (Some a) = refl

-- the channel in the answer is the one in the entry
pub channel_told : (s : State) (task : ℕ) (call : Call)
    → channel_answered (call_answer s task call) ≡ channel_at (Some (call_entry s task call))
channel_told s task (host_call.Commit buffer payload) = refl
channel_told s task (host_call.Withdraw buffer) = refl
channel_told s task (host_call.Read buffer) = arrived (received_by s buffer)
channel_told s task host_call.Pop = arrived (oldest_of s)
