-- The view of an interface, and the refusals of its calls.
use Rattle.std.specs.Prelude.{◌≡◌, ℕ, ◌+◌, ◌*◌, ◌==◌, nat_lt, nat_le, not, Bool, false, List, [], ◌∷◌, ◌++◌, length}
use Rattle.std.specs.Prelude.{Option, Some, None, is_some, if◌then◌else◌, count_by, option_map}
use Rattle.std.specs.Option.{option_and_then}
use Rattle.fr_journal.specs.Forms.{Entry}
use Rattle.fr_journal.specs.declared.entry.Entry.TheVariants as entries
use Rattle.fr_interface.specs.declared.errors.HostError.{HostError}
use Rattle.fr_interface.specs.declared.errors.HostError.TheVariants.{UnknownTask, UnknownBuffer, NotTransmit}
use Rattle.fr_interface.specs.declared.errors.HostError.TheVariants.{WrongLength, HostFull, NotReceive, NoQueue}
use Rattle.fr_interface.specs.declared.errors.SlotError.{SlotError}
use Rattle.fr_interface.specs.declared.errors.SlotError.TheVariants.{NotObserved, WindowOrder, SlotFull, NotFetched}
use Rattle.fr_interface.specs.declared.errors.SlotError.TheVariants.{WrongWindow, BadWindow}
use Rattle.fr_journal.specs.declared.entry.Arrival.{Arrival}
use Rattle.fr_journal.specs.declared.fate.Tally.{Tally}
use Rattle.fr_interface.specs.declared.source.Source.{Source}
use Rattle.fr_interface.specs.declared.source.Source.TheVariants as source
use Rattle.fr_journal.specs.Arrivals.{moves, arrived, oldest, queue_length, queue_lost, is_answered_pop}
use Rattle.fr_journal.specs.Entries.{is_host, is_slot}
use Rattle.fr_journal.specs.Fate.{held_commit, pending_commit, tally_of}
use Rattle.fr_journal.specs.Held.{held, origin_of}
use Rattle.fr_journal.specs.Legal.{IsLegalJournal, AreEntries}
use Rattle.fr_journal.specs.Offers.{offered}
use Rattle.fr_journal.specs.OpenWindow.{open_window, last_number}
use Rattle.fr_slots.specs.declared.channel.Channel.TheVariants as channel
use Rattle.fr_slots.specs.declared.plan.Buffer.{Buffer}
use Rattle.fr_slots.specs.declared.plan.Queue.{Queue}
use Rattle.fr_slots.specs.Faults.{plan_fault, words_of}
use Rattle.fr_slots.specs.Parameters.{Parameters, IsParameters}
use Rattle.fr_slots.specs.Plans.{Plan, IsPlan, IsNodePlan, is_receive, buffer_at}
use Rattle.fr_slots.specs.Windows.{Opportunity, window_fits}

pub record State : Type 0 where
  pub params : Parameters
  pub plan : Plan
  pub entries : List Entry

-- all entries before, and one more
abbrev pub with_entry : State → Entry → State
with_entry s e = record { params = s.params; plan = s.plan; entries = s.entries ++ e ∷ [] }

-- ---- the properties of every interface

-- Every interface is legal: its plan has no fault for its parameters, and its journal is a legal journal of both.
pub record IsLegalInterface (s : State) : Type 0 where
  pub params_are : IsParameters s.params
  pub plan_is : IsPlan s.plan
  pub faultless : plan_fault s.params s.plan ≡ None
  pub entries_are : AreEntries s.entries
  pub legal : IsLegalJournal s.params s.plan s.entries

-- the legal interface of a node, with room within the limits of its journal
pub record IsNodeInterface (s : State) : Type 0 where
  pub legal : IsLegalInterface s
  pub node_plan : IsNodePlan s.plan

-- ---- answers

abbrev pub received_in : State → Buffer → Option Arrival
received_in s b = if is_receive b.mode then held s.params b.filter s.entries else None

-- the frame that the receive buffer of this number holds
abbrev pub received_by : State → ℕ → Option Arrival
received_by s buffer = option_and_then (received_in s) (buffer_at s.plan buffer)

abbrev pub source_by : State → ℕ → Buffer → Option Source
source_by s buffer b =
    if is_receive b.mode then option_map (λ a. source.Observed (origin_of a)) (held s.params b.filter s.entries)
    else option_map source.Commit (held_commit buffer s.entries)

-- the source of a buffer's content
abbrev pub source_of : State → ℕ → Option Source
source_of s buffer = option_and_then (source_by s buffer) (buffer_at s.plan buffer)

abbrev pub tally_in : State → ℕ → Buffer → Option Tally
tally_in s buffer b = if is_receive b.mode then None else Some (tally_of buffer s.entries)

-- the tally of the commits on the transmit buffer of this number
abbrev pub tally_by : State → ℕ → Option Tally
tally_by s buffer = option_and_then (tally_in s buffer) (buffer_at s.plan buffer)

-- the oldest frame of the receive FIFO, if there is one
abbrev pub oldest_of : State → Option Arrival
oldest_of s = option_and_then (λ q. oldest q.capacity (moves s.params s.plan q s.entries)) s.plan.queue

-- the number of frames that arrived for a receive FIFO
abbrev pub arrived_of : State → Queue → ℕ
arrived_of s q = length (arrived (moves s.params s.plan q s.entries))

-- the number of pops that returned a frame
abbrev pub popped_of : State → ℕ
popped_of s = count_by is_answered_pop s.entries

-- the number of frames in a receive FIFO
abbrev pub queued_of : State → Queue → ℕ
queued_of s q = queue_length q.capacity (moves s.params s.plan q s.entries)

-- the number of frames in the node's receive FIFO
abbrev pub length_of : State → Option ℕ
length_of s = option_map (queued_of s) s.plan.queue

-- the number of frames that the node's receive FIFO lost
abbrev pub lost_of : State → Option ℕ
lost_of s = option_map (λ q. queue_lost s.params s.plan q s.entries) s.plan.queue

-- ---- the entries of calls, with their answers

abbrev pub withdraw_entry : State → ℕ → ℕ → Entry
withdraw_entry s task buffer = entries.Withdraw task buffer (pending_commit buffer s.entries)

abbrev pub read_entry : State → ℕ → ℕ → Entry
read_entry s task buffer = entries.Read task buffer (option_map origin_of (received_by s buffer))

abbrev pub pop_entry : State → ℕ → Entry
pop_entry s task = entries.Pop task (option_map origin_of (oldest_of s))

abbrev pub fetch_entry : State → Opportunity → Entry
fetch_entry s window =
    entries.Fetch window (offered s.plan s.entries window channel.A) (offered s.plan s.entries window channel.B)

-- ---- the refusals, in the order of the tests

abbrev pub is_host_full : State → Bool
is_host_full s = nat_le s.plan.host_entries (count_by is_host s.entries)

abbrev pub has_words : Parameters → Buffer → List ℕ → Bool
has_words params b payload = length payload == 2 * words_of params b

abbrev pub unless_transmit : State → List ℕ → Option Buffer → Option HostError
unless_transmit s payload None = Some UnknownBuffer
unless_transmit s payload (Some b) =
    if is_receive b.mode then Some NotTransmit
    else if not (has_words s.params b payload) then Some WrongLength
    else if is_host_full s then Some HostFull
    else None

abbrev pub commit_refusal : State → ℕ → ℕ → List ℕ → Option HostError
commit_refusal s task buffer payload = if nat_le s.plan.tasks task then Some UnknownTask
    else unless_transmit s payload (buffer_at s.plan buffer)

abbrev pub unless_sending : State → Option Buffer → Option HostError
unless_sending s None = Some UnknownBuffer
unless_sending s (Some b) = if is_receive b.mode then Some NotTransmit else if is_host_full s then Some HostFull
    else None

abbrev pub withdraw_refusal : State → ℕ → ℕ → Option HostError
withdraw_refusal s task buffer = if nat_le s.plan.tasks task then Some UnknownTask
    else unless_sending s (buffer_at s.plan buffer)

abbrev pub unless_receive : State → Option Buffer → Option HostError
unless_receive s None = Some UnknownBuffer
unless_receive s (Some b) = if not (is_receive b.mode) then Some NotReceive else if is_host_full s then Some HostFull
    else None

abbrev pub read_refusal : State → ℕ → ℕ → Option HostError
read_refusal s task buffer = if nat_le s.plan.tasks task then Some UnknownTask
    else unless_receive s (buffer_at s.plan buffer)

abbrev pub unless_queued : State → Option Queue → Option HostError
unless_queued s None = Some NoQueue
unless_queued s (Some q) = if is_host_full s then Some HostFull else None

abbrev pub pop_refusal : State → ℕ → Option HostError
pop_refusal s task = if nat_le s.plan.tasks task then Some UnknownTask else unless_queued s s.plan.queue

abbrev pub is_not_above : ℕ → Option ℕ → Bool
is_not_above number None = false
is_not_above number (Some last) = nat_le number last

abbrev pub fetch_refusal : State → Opportunity → Option SlotError
fetch_refusal s window =
    if is_some (open_window s.entries) then Some NotObserved
    else if not (window_fits s.params window) then Some BadWindow
    else if is_not_above window.number (last_number s.entries) then Some WindowOrder
    else if nat_lt s.plan.slot_entries (count_by is_slot s.entries + 2) then Some SlotFull
    else None

abbrev pub unless_open : ℕ → Option Opportunity → Option SlotError
unless_open number None = Some NotFetched
unless_open number (Some window) = if window.number == number then None else Some WrongWindow

abbrev pub observe_refusal : State → ℕ → Option SlotError
observe_refusal s number = unless_open number (open_window s.entries)
