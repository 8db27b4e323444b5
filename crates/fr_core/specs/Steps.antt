-- One atomic step of a world (project-defined): the refusals of events, in the order of the tests, the reply to an
-- accepted event, and the world after it.
use Rattle.std.specs.Prelude.{◌≡◌, ℕ, length, Option, Some, None, option_map, Result, Ok, Err, slice_set, if◌then◌else◌}
use Rattle.fr_bus.specs.declared.error.BusError.TheVariants.{NotCollecting, Memory}
use Rattle.fr_bus.specs.States.{BusState, collecting_of, put_refusal, put_done, take_refusal, take_done, seen_last}
use Rattle.fr_bus.specs.States.{inject_refusal, inject_done, seal_refusal, sealed_now, advance_refusal, advanced}
use Rattle.fr_core.specs.Carried.{Carried, Idle, Knows, Offers, Waits, Took}
use Rattle.fr_core.specs.declared.error.StepError.{StepError}
use Rattle.fr_core.specs.declared.error.StepError.TheVariants.{UnknownNode, WrongTurn, Host, Slot, Bus}
use Rattle.fr_core.specs.declared.event.Event.{Event}
use Rattle.fr_core.specs.declared.event.Event.TheVariants.{Commit, Withdraw, Read, Pop, Look, Fetch, Put, Take}
use Rattle.fr_core.specs.declared.event.Event.TheVariants.{Observe, Inject, Seal, Advance}
use Rattle.fr_core.specs.declared.event.Reply.{Reply}
use Rattle.fr_core.specs.declared.event.Reply.TheVariants.{Committed, Withdrawn, Frame, Window, Done}
use Rattle.fr_core.specs.Worlds.{WorldState, has_node, interface_at, carried_at}
use Rattle.fr_interface.specs.declared.call.Answer.{Answer}
use Rattle.fr_interface.specs.declared.call.Answer.TheVariants as answer
use Rattle.fr_interface.specs.declared.call.Call.{Call}
use Rattle.fr_interface.specs.declared.call.Call.TheVariants as host_call
pub use Rattle.fr_interface.specs.Handing.{offer_of}
use Rattle.fr_interface.specs.State.{State, with_entry, withdraw_entry, read_entry, pop_entry, fetch_entry}
use Rattle.fr_interface.specs.State.{received_by, oldest_of, commit_refusal, withdraw_refusal, read_refusal}
use Rattle.fr_interface.specs.State.{pop_refusal, fetch_refusal, observe_refusal}
use Rattle.fr_journal.specs.declared.entry.Entry.TheVariants as entries
use Rattle.fr_journal.specs.Fate.{pending_commit}
use Rattle.fr_journal.specs.Held.{frame_of}
use Rattle.fr_slots.specs.declared.channel.Channel.TheVariants.{A, B}
use Rattle.fr_slots.specs.Windows.{Opportunity}

-- ---- changes

abbrev pub with_interface : WorldState → ℕ → State → WorldState
with_interface w n i = record { interfaces = slice_set w.interfaces n i; bus = w.bus; carried = w.carried }

abbrev pub with_carried : WorldState → ℕ → Carried → WorldState
with_carried w n c = record { interfaces = w.interfaces; bus = w.bus; carried = slice_set w.carried n c }

abbrev pub with_bus : WorldState → BusState → WorldState
with_bus w b = record { interfaces = w.interfaces; bus = b; carried = w.carried }

-- ---- the step that is due

abbrev pub unless_collecting : Option Opportunity → Option StepError
unless_collecting None = Some (Bus NotCollecting)
unless_collecting (Some window) = None

-- a step is refused if another one is due
abbrev pub look_in_turn : WorldState → Carried → Option StepError
look_in_turn w Idle = unless_collecting (collecting_of w.bus)
look_in_turn w (Knows window) = Some WrongTurn
look_in_turn w (Offers window offer) = Some WrongTurn
look_in_turn w (Waits window) = Some WrongTurn
look_in_turn w (Took window a b) = Some WrongTurn

abbrev pub fetch_in_turn : WorldState → ℕ → Carried → Option StepError
fetch_in_turn w n Idle = Some WrongTurn
fetch_in_turn w n (Knows window) = option_map Slot (fetch_refusal (interface_at w n) window)
fetch_in_turn w n (Offers window offer) = Some WrongTurn
fetch_in_turn w n (Waits window) = Some WrongTurn
fetch_in_turn w n (Took window a b) = Some WrongTurn

abbrev pub put_in_turn : WorldState → ℕ → Carried → Option StepError
put_in_turn w n Idle = Some WrongTurn
put_in_turn w n (Knows window) = Some WrongTurn
put_in_turn w n (Offers window offer) = option_map Bus (put_refusal w.bus n window.number)
put_in_turn w n (Waits window) = Some WrongTurn
put_in_turn w n (Took window a b) = Some WrongTurn

abbrev pub take_in_turn : WorldState → ℕ → Carried → Option StepError
take_in_turn w n Idle = Some WrongTurn
take_in_turn w n (Knows window) = Some WrongTurn
take_in_turn w n (Offers window offer) = Some WrongTurn
take_in_turn w n (Waits window) = option_map Bus (take_refusal w.bus n window.number)
take_in_turn w n (Took window a b) = Some WrongTurn

abbrev pub observe_in_turn : WorldState → ℕ → Carried → Option StepError
observe_in_turn w n Idle = Some WrongTurn
observe_in_turn w n (Knows window) = Some WrongTurn
observe_in_turn w n (Offers window offer) = Some WrongTurn
observe_in_turn w n (Waits window) = Some WrongTurn
observe_in_turn w n (Took window a b) = option_map Slot (observe_refusal (interface_at w n) window.number)

-- ---- the world after a controller's step

abbrev pub looked : WorldState → ℕ → Option Opportunity → WorldState
looked w n None = w
looked w n (Some window) = with_carried w n (Knows window)

-- the interface has one more entry, and the controller carries the offer that it handed out
abbrev pub fetched : WorldState → ℕ → Carried → WorldState
fetched w n Idle = w
fetched w n (Knows window) =
    with_carried
    (with_interface w n (with_entry (interface_at w n) (fetch_entry (interface_at w n) window)))
    n (Offers window (offer_of (interface_at w n) window))
fetched w n (Offers window offer) = w
fetched w n (Waits window) = w
fetched w n (Took window a b) = w

-- the bus has the offer that the controller carried
abbrev pub put_on_bus : WorldState → ℕ → Carried → WorldState
put_on_bus w n Idle = w
put_on_bus w n (Knows window) = w
put_on_bus w n (Offers window offer) = with_carried (with_bus w (put_done w.bus n offer)) n (Waits window)
put_on_bus w n (Waits window) = w
put_on_bus w n (Took window a b) = w

-- the controller carries its observation from the bus
abbrev pub taken : WorldState → ℕ → Carried → WorldState
taken w n Idle = w
taken w n (Knows window) = w
taken w n (Offers window offer) = w
taken w n (Waits window) =
    with_carried (with_bus w (take_done w.bus n)) n (Took window (seen_last w.bus A n) (seen_last w.bus B n))
taken w n (Took window a b) = w

-- the interface has one more entry, with the observation that the controller carried
abbrev pub observed : WorldState → ℕ → Carried → WorldState
observed w n Idle = w
observed w n (Knows window) = w
observed w n (Offers window offer) = w
observed w n (Waits window) = w
observed w n (Took window a b) =
    with_carried (with_interface w n (with_entry (interface_at w n) (entries.Observe window.number a b))) n Idle

-- ---- events

-- the reply that has the answer of an interface
abbrev pub reply_of : Answer → Reply
reply_of (answer.Committed receipt) = Committed receipt
reply_of (answer.Withdrawn of) = Withdrawn of
reply_of (answer.Frame arrival) = Frame (option_map frame_of arrival)

-- the event of a call of a task
abbrev pub event_of : ℕ → ℕ → Call → Event
event_of n task (host_call.Commit buffer payload) = Commit n task buffer payload
event_of n task (host_call.Withdraw buffer) = Withdraw n task buffer
event_of n task (host_call.Read buffer) = Read n task buffer
event_of n task host_call.Pop = Pop n task

-- an unknown node is refused before everything else
abbrev pub if_node : WorldState → ℕ → Option StepError → Option StepError
if_node w n refusal = if has_node w n then refusal else Some UnknownNode

abbrev pub step_refusal : WorldState → Event → Option StepError
step_refusal w (Commit n task buffer payload) =
    if_node w n (option_map Host (commit_refusal (interface_at w n) task buffer payload))
step_refusal w (Withdraw n task buffer) =
    if_node w n (option_map Host (withdraw_refusal (interface_at w n) task buffer))
step_refusal w (Read n task buffer) = if_node w n (option_map Host (read_refusal (interface_at w n) task buffer))
step_refusal w (Pop n task) = if_node w n (option_map Host (pop_refusal (interface_at w n) task))
step_refusal w (Look n) = if_node w n (look_in_turn w (carried_at w n))
step_refusal w (Fetch n) = if_node w n (fetch_in_turn w n (carried_at w n))
step_refusal w (Put n) = if_node w n (put_in_turn w n (carried_at w n))
step_refusal w (Take n) = if_node w n (take_in_turn w n (carried_at w n))
step_refusal w (Observe n) = if_node w n (observe_in_turn w n (carried_at w n))
step_refusal w (Inject fault) = option_map Bus (inject_refusal w.bus fault)
step_refusal w Seal = option_map Bus (seal_refusal w.bus)
step_refusal w Advance = option_map Bus (advance_refusal w.bus)

abbrev pub window_shown : Option Opportunity → Reply
window_shown None = Done
window_shown (Some window) = Window window

abbrev pub step_reply : WorldState → Event → Reply
step_reply w (Commit n task buffer payload) =
    Committed (record { task = task; entry = length (interface_at w n).entries })
step_reply w (Withdraw n task buffer) = Withdrawn (pending_commit buffer (interface_at w n).entries)
step_reply w (Read n task buffer) = Frame (option_map frame_of (received_by (interface_at w n) buffer))
step_reply w (Pop n task) = Frame (option_map frame_of (oldest_of (interface_at w n)))
step_reply w (Look n) = window_shown (collecting_of w.bus)
step_reply w (Fetch n) = Done
step_reply w (Put n) = Done
step_reply w (Take n) = Done
step_reply w (Observe n) = Done
step_reply w (Inject fault) = Done
step_reply w Seal = Done
step_reply w Advance = Done

-- the effect of one call and of that controller's carried data, and nothing else
abbrev pub step_done : WorldState → Event → WorldState
step_done w (Commit n task buffer payload) =
    with_interface w n (with_entry (interface_at w n) (entries.Commit task buffer payload))
step_done w (Withdraw n task buffer) =
    with_interface w n (with_entry (interface_at w n) (withdraw_entry (interface_at w n) task buffer))
step_done w (Read n task buffer) =
    with_interface w n (with_entry (interface_at w n) (read_entry (interface_at w n) task buffer))
step_done w (Pop n task) = with_interface w n (with_entry (interface_at w n) (pop_entry (interface_at w n) task))
step_done w (Look n) = looked w n (collecting_of w.bus)
step_done w (Fetch n) = fetched w n (carried_at w n)
step_done w (Put n) = put_on_bus w n (carried_at w n)
step_done w (Take n) = taken w n (carried_at w n)
step_done w (Observe n) = observed w n (carried_at w n)
step_done w (Inject fault) = with_bus w (inject_done w.bus fault)
step_done w Seal = with_bus w (sealed_now w.bus)
step_done w Advance = with_bus w (advanced w.bus)

-- the allocation of a seal that is otherwise lawful may fail
abbrev pub Refuses : Event → StepError → Option StepError → Type 0
Refuses Seal (Bus Memory) found = found ≡ None
Refuses event e found = found ≡ Some e

-- An event without a refusal is accepted: it gets its reply and takes its one step. A refused event changes nothing.
abbrev pub Steps : WorldState → Event → Result Reply StepError → WorldState → Type 0
Steps old event (Ok reply) new =
    (step_refusal old event ≡ None) × (reply ≡ step_reply old event) × (new ≡ step_done old event)
Steps old event (Err e) new = Refuses event e (step_refusal old event) × (new ≡ old)

-- the reply to an accepted event that has none of its own
abbrev pub answered : Reply → Result (Unit {0}) StepError → Result Reply StepError
answered reply (Ok done) = Ok reply
answered reply (Err e) = Err e

abbrev pub with_window : Result Opportunity StepError → Result Reply StepError
with_window (Ok window) = Ok (Window window)
with_window (Err e) = Err e

-- the event without its reply
abbrev pub Applies : WorldState → Event → Result (Unit {0}) StepError → WorldState → Type 0
Applies old event outcome new = Steps old event (answered (step_reply old event) outcome) new
