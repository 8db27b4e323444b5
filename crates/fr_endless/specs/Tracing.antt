-- The entry that an accepted event adds to the journal of its node (project-defined).
use Rattle.std.specs.Prelude.{◌≡◌, ℕ, Bool, true, false, List, [], Option, Some, None, option_map}
use Rattle.fr_core.specs.Carried.{Carried, Idle, Knows, Offers, Waits, Took}
use Rattle.fr_core.specs.declared.event.Event.{Event}
use Rattle.fr_core.specs.declared.event.Event.TheVariants.{Commit, Withdraw, Read, Pop, Look, Fetch, Put, Take}
use Rattle.fr_core.specs.declared.event.Event.TheVariants.{Observe, Inject, Seal, Advance}
use Rattle.fr_core.specs.Worlds.{WorldState, carried_at, interface_at}
use Rattle.fr_endless.specs.declared.tracing.HostCall.{HostCall}
use Rattle.fr_interface.specs.declared.call.Answer.{Answer}
use Rattle.fr_interface.specs.declared.call.Answer.TheVariants as answer
use Rattle.fr_interface.specs.declared.call.Call.{Call}
use Rattle.fr_interface.specs.declared.call.Call.TheVariants as call
use Rattle.fr_interface.specs.State.{State, fetch_entry, pop_entry, read_entry, withdraw_entry}
use Rattle.fr_journal.specs.declared.entry.Entry.TheVariants as entries
use Rattle.fr_journal.specs.declared.entry.Origin.{Origin}
use Rattle.fr_journal.specs.Forms.{Entry}
use Rattle.fr_journal.specs.Held.{origin_of}
use Rattle.fr_endless.specs.Taps.{traced_in}
use Rattle.fr_trace.specs.TraceText.{entry_line}

-- ---- the entry of an event

-- the entry of a fetch, by the data that the controller carries
abbrev pub fetched_entry : State → Carried → Option Entry
fetched_entry s Idle = None
fetched_entry s (Knows window) = Some (fetch_entry s window)
fetched_entry s (Offers window offer) = None
fetched_entry s (Waits window) = None
fetched_entry s (Took window a b) = None

-- the entry of an observation
abbrev pub observed_entry : Carried → Option Entry
observed_entry Idle = None
observed_entry (Knows window) = None
observed_entry (Offers window offer) = None
observed_entry (Waits window) = None
observed_entry (Took window a b) = Some (entries.Observe window.number a b)

-- the entry that the event adds, if it is accepted
abbrev pub entry_by : WorldState → Event → Option Entry
entry_by w (Commit n task buffer payload) = Some (entries.Commit task buffer payload)
entry_by w (Withdraw n task buffer) = Some (withdraw_entry (interface_at w n) task buffer)
entry_by w (Read n task buffer) = Some (read_entry (interface_at w n) task buffer)
entry_by w (Pop n task) = Some (pop_entry (interface_at w n) task)
entry_by w (Look n) = None
entry_by w (Fetch n) = fetched_entry (interface_at w n) (carried_at w n)
entry_by w (Put n) = None
entry_by w (Take n) = None
entry_by w (Observe n) = observed_entry (carried_at w n)
entry_by w (Inject fault) = None
entry_by w Seal = None
entry_by w Advance = None

-- the node of an event; node 0 of an event of the bus
abbrev pub node_of : Event → ℕ
node_of (Commit n task buffer payload) = n
node_of (Withdraw n task buffer) = n
node_of (Read n task buffer) = n
node_of (Pop n task) = n
node_of (Look n) = n
node_of (Fetch n) = n
node_of (Put n) = n
node_of (Take n) = n
node_of (Observe n) = n
node_of (Inject fault) = 0
node_of Seal = 0
node_of Advance = 0

-- the line of the entry, if there is one
abbrev pub line_in : Option Entry → List ℕ
line_in None = []
line_in (Some entry) = entry_line entry

-- ---- calls of a host

abbrev pub host_call : ℕ → ℕ → Call → Option HostCall
host_call node task call = Some (record { node = node; task = task; call = call })

-- the call of an event, if it is one of a host
abbrev pub call_in : Event → Option HostCall
call_in (Commit n task buffer payload) = host_call n task (call.Commit buffer payload)
call_in (Withdraw n task buffer) = host_call n task (call.Withdraw buffer)
call_in (Read n task buffer) = host_call n task (call.Read buffer)
call_in (Pop n task) = host_call n task call.Pop
call_in (Look n) = None
call_in (Fetch n) = None
call_in (Put n) = None
call_in (Take n) = None
call_in (Observe n) = None
call_in (Inject fault) = None
call_in Seal = None
call_in Advance = None

-- the commit that an answer names as withdrawn
abbrev pub withdrawn_in : Answer → Option ℕ
withdrawn_in (answer.Committed receipt) = None
withdrawn_in (answer.Withdrawn of) = of
withdrawn_in (answer.Frame arrival) = None

-- the origin of the frame that an answer has
abbrev pub origin_in : Answer → Option Origin
origin_in (answer.Committed receipt) = None
origin_in (answer.Withdrawn of) = None
origin_in (answer.Frame arrival) = option_map origin_of arrival

-- the entry of a call, by its answer
abbrev pub entry_told : ℕ → Call → Answer → Entry
entry_told task (call.Commit buffer payload) given = entries.Commit task buffer payload
entry_told task (call.Withdraw buffer) given = entries.Withdraw task buffer (withdrawn_in given)
entry_told task (call.Read buffer) given = entries.Read task buffer (origin_in given)
entry_told task call.Pop given = entries.Pop task (origin_in given)

-- ---- the traces

-- whether the event adds an entry to a journal, if it is accepted
abbrev pub adds_entry : Event → Bool
adds_entry (Commit n task buffer payload) = true
adds_entry (Withdraw n task buffer) = true
adds_entry (Read n task buffer) = true
adds_entry (Pop n task) = true
adds_entry (Look n) = false
adds_entry (Fetch n) = true
adds_entry (Put n) = false
adds_entry (Take n) = false
adds_entry (Observe n) = true
adds_entry (Inject fault) = false
adds_entry Seal = false
adds_entry Advance = false

-- if it adds an entry, the bytes of its node's trace aren't known: there is no such trace
abbrev pub IsPlain : List (Option (List ℕ)) → Event → Type 0
IsPlain traced event = adds_entry event ≡ true → traced_in traced (node_of event) ≡ None
