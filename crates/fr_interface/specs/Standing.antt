-- The data that an interface keeps, in place of the calls before.
use Rattle.std.specs.Prelude.{◌≡◌, ℕ, ◌+◌, ◌-◌, ◌^◌, ◌≤◌, nat_le, nat_lt, not, Bool, List, map, Option, Some, None}
use Rattle.std.specs.Prelude.{is_some, if◌then◌else◌, count_by, option_map, slice_get}
use Rattle.std.specs.Option.{option_and_then}
use Rattle.fr_buffers.specs.Transmitting.{Transmitter, with_commit, after_withdraw, entry_of}
use Rattle.fr_buffers.specs.Waiting.{Waiting, without_oldest}
use Rattle.fr_frame.specs.Fields.{Fields}
use Rattle.fr_interface.specs.declared.errors.HostError.{HostError}
use Rattle.fr_interface.specs.declared.errors.HostError.TheVariants.{UnknownTask, UnknownBuffer, NotTransmit}
use Rattle.fr_interface.specs.declared.errors.HostError.TheVariants.{WrongLength, HostFull, NotReceive, NoQueue}
use Rattle.fr_interface.specs.declared.errors.SlotError.{SlotError}
use Rattle.fr_interface.specs.declared.errors.SlotError.TheVariants.{NotObserved, WindowOrder, SlotFull, BadWindow}
use Rattle.fr_interface.specs.declared.opening.Opening.{Opening}
use Rattle.fr_interface.specs.declared.sending.Sender.{Sender}
use Rattle.fr_interface.specs.declared.source.Source.{Source}
use Rattle.fr_interface.specs.declared.source.Source.TheVariants as source
use Rattle.fr_interface.specs.Known.{opening_of, transmitters, held_in, waiting_of, change_at, stored_all}
use Rattle.fr_interface.specs.Known.{with_arrivals, with_seen}
use Rattle.fr_interface.specs.Sending.{after_sender}
use Rattle.fr_interface.specs.State.{State, has_words, is_not_above, unless_open}
use Rattle.fr_journal.specs.Counts.{counters_of}
use Rattle.fr_journal.specs.Cycles.{cycles_of}
use Rattle.fr_journal.specs.declared.entry.Arrival.{Arrival}
use Rattle.fr_journal.specs.declared.entry.Moment.{Moment}
use Rattle.fr_journal.specs.declared.fate.Tally.{Tally}
use Rattle.fr_journal.specs.Held.{origin_of}
use Rattle.fr_journal.specs.Legal.{IsLegalJournal, AreEntries}
use Rattle.fr_journal.specs.Entries.{is_host, is_slot}
use Rattle.fr_slots.specs.declared.channel.Channel.TheVariants.{A, B}
use Rattle.fr_slots.specs.Parameters.{Parameters, IsParameters}
use Rattle.fr_slots.specs.declared.plan.Buffer.{Buffer}
use Rattle.fr_slots.specs.declared.plan.Queue.{Queue}
use Rattle.fr_slots.specs.Plans.{Plan, is_receive, buffer_at, with_limits}
use Rattle.fr_slots.specs.Windows.{Opportunity, opens_cycle, window_fits}
use Rattle.fr_status.specs.declared.counters.Counters.{Counters}
use Rattle.fr_status.specs.declared.status.SlotStatus.{SlotStatus}

pub record Standing : Type 0 where
  pub params : Parameters
  pub plan : Plan
  pub host_limit : ℕ
  pub slot_limit : ℕ
  pub hosts : ℕ
  pub slots : ℕ
  pub cycles : ℕ
  pub opening : Opening
  pub transmit : List Transmitter
  pub receive : List (Option Arrival)
  pub queue : Option Waiting
  pub counters : Counters

-- the kept data after a history
abbrev pub standing_of : State → Standing
standing_of s = record {
  params = s.params;
  plan = s.plan;
  host_limit = s.plan.host_entries;
  slot_limit = s.plan.slot_entries;
  hosts = count_by is_host s.entries;
  slots = count_by is_slot s.entries;
  cycles = cycles_of s.entries;
  opening = opening_of s.entries;
  transmit = transmitters s.plan s.entries;
  receive = map (held_in s.params s.entries) s.plan.buffers;
  queue = option_map (waiting_of s.params s.plan s.entries) s.plan.queue;
  counters = counters_of s.params s.entries;
}

-- the kept data, with a plan that has their room
abbrev pub limited : Standing → Standing
limited h = record h { plan = with_limits h.plan h.host_limit h.slot_limit }

-- A legal history for a plan with any room, if the number of every entry and of every arrived frame fits.
pub record IsLegalHistory (s : State) : Type 0 where
  pub params_are : IsParameters s.params
  pub entries_are : AreEntries s.entries
  pub legal : IsLegalJournal s.params s.plan s.entries
  pub few : s.plan.host_entries + s.plan.slot_entries + 3 ≤ 2 ^ 32

pub record Leaves (h : Standing) (s : State) : Type 0 where
  pub legal : IsLegalHistory s
  pub host_room : count_by is_host s.entries ≤ s.plan.host_entries
  pub slot_room : count_by is_slot s.entries ≤ s.plan.slot_entries
  pub leaves : standing_of s ≡ h

-- a legal history with these kept data as its result
abbrev pub IsHistory : Standing → State → Type 0
IsHistory h s = Leaves (limited h) s

-- the terms that every call keeps
pub record KeepsTerms (old new : Standing) : Type 0 where
  pub params : new.params ≡ old.params
  pub plan : new.plan ≡ old.plan
  pub host_limit : new.host_limit ≡ old.host_limit
  pub slot_limit : new.slot_limit ≡ old.slot_limit

-- the property holds for each history that leads there
abbrev pub ForEachHistory : Standing → (State → Type 0) → Type 0
ForEachHistory h P = (s : State) → IsHistory h s → P s

-- ---- the kept data after a call

-- the number of calls, which is the number of the next entry
abbrev pub entries_before : Standing → ℕ
entries_before h = h.hosts + h.slots

-- the moment of the next entry
abbrev pub moment_before : Standing → Moment
moment_before h = record { entry = entries_before h; cycle = h.cycles - 1 }

abbrev pub after_commit : Standing → ℕ → List ℕ → Standing
after_commit h buffer payload = record h {
  hosts = h.hosts + 1;
  transmit = change_at (λ b. with_commit b (record { entry = entries_before h; payload = payload })) h.transmit buffer;
}

abbrev pub after_read : Standing → Standing
after_read h = record h { hosts = h.hosts + 1 }

abbrev pub after_taking_back : Standing → ℕ → Standing
after_taking_back h buffer = record h { hosts = h.hosts + 1; transmit = change_at after_withdraw h.transmit buffer }

abbrev pub after_pop : Standing → Standing
after_pop h = record h { hosts = h.hosts + 1; queue = option_map without_oldest h.queue }

abbrev pub after_fetch : Standing → Opportunity → Option Sender → Option Sender → Standing
after_fetch h window from_a from_b = record h {
  slots = h.slots + 1;
  cycles = h.cycles + (if opens_cycle window then 1 else 0);
  opening = record { window = Some window; last = Some window.number };
  transmit = after_sender (after_sender h.transmit from_a) from_b;
}

-- after a window with this status and these data frames
abbrev pub after_observe : Standing → Opportunity → Option SlotStatus → Option SlotStatus → Option Fields
    → Option Fields → Standing
after_observe h window status_a status_b frame_a frame_b = record h {
  slots = h.slots + 1;
  opening = record { window = None; last = h.opening.last };
  receive = stored_all (moment_before h) window frame_a frame_b h.plan.buffers h.receive;
  queue = with_arrivals h.plan (moment_before h) window frame_a frame_b h.plan.queue h.queue;
  counters = with_seen (with_seen h.counters A status_a) B status_b;
}

-- ---- the refusals of calls

abbrev pub is_full : Standing → Bool
is_full h = nat_le h.host_limit h.hosts

abbrev pub commit_fault : Parameters → Bool → List ℕ → Option Buffer → Option HostError
commit_fault params full payload None = Some UnknownBuffer
commit_fault params full payload (Some b) =
    if is_receive b.mode then Some NotTransmit
    else if not (has_words params b payload) then Some WrongLength
    else if full then Some HostFull
    else None

abbrev pub commit_refused : Standing → ℕ → ℕ → List ℕ → Option HostError
commit_refused h task buffer payload = if nat_le h.plan.tasks task then Some UnknownTask
    else commit_fault h.params (is_full h) payload (buffer_at h.plan buffer)

abbrev pub read_fault : Bool → Option Buffer → Option HostError
read_fault full None = Some UnknownBuffer
read_fault full (Some b) = if not (is_receive b.mode) then Some NotReceive else if full then Some HostFull else None

abbrev pub read_refused : Standing → ℕ → ℕ → Option HostError
read_refused h task buffer = if nat_le h.plan.tasks task then Some UnknownTask
    else read_fault (is_full h) (buffer_at h.plan buffer)

abbrev pub sending_fault : Bool → Option Buffer → Option HostError
sending_fault full None = Some UnknownBuffer
sending_fault full (Some b) = if is_receive b.mode then Some NotTransmit else if full then Some HostFull else None

abbrev pub withdraw_refused : Standing → ℕ → ℕ → Option HostError
withdraw_refused h task buffer = if nat_le h.plan.tasks task then Some UnknownTask
    else sending_fault (is_full h) (buffer_at h.plan buffer)

abbrev pub queue_fault : Bool → Option Queue → Option HostError
queue_fault full None = Some NoQueue
queue_fault full (Some q) = if full then Some HostFull else None

abbrev pub pop_refused : Standing → ℕ → Option HostError
pop_refused h task = if nat_le h.plan.tasks task then Some UnknownTask else queue_fault (is_full h) h.plan.queue

abbrev pub fetch_refused : Standing → Opportunity → Option SlotError
fetch_refused h window =
    if is_some h.opening.window then Some NotObserved
    else if not (window_fits h.params window) then Some BadWindow
    else if is_not_above window.number h.opening.last then Some WindowOrder
    else if nat_lt h.slot_limit (h.slots + 2) then Some SlotFull
    else None

abbrev pub observe_refused : Standing → ℕ → Option SlotError
observe_refused h number = unless_open number h.opening.window

-- ---- the answers of calls

abbrev pub held_at : Standing → ℕ → Option Arrival
held_at h number = option_and_then (λ a. a) (slice_get h.receive number)

abbrev pub oldest_at : Standing → Option Arrival
oldest_at h = option_and_then (λ w. slice_get w.frames 0) h.queue

abbrev pub source_where : Standing → ℕ → Buffer → Option Source
source_where h number b =
    if is_receive b.mode then option_map (λ a. source.Observed (origin_of a)) (held_at h number)
    else option_map source.Commit (option_and_then entry_of (slice_get h.transmit number))

abbrev pub source_at : Standing → ℕ → Option Source
source_at h number = option_and_then (source_where h number) (buffer_at h.plan number)

abbrev pub tally_where : Standing → ℕ → Buffer → Option Tally
tally_where h number b = if is_receive b.mode then None else option_map (λ b. b.tally) (slice_get h.transmit number)

abbrev pub tally_at : Standing → ℕ → Option Tally
tally_at h number = option_and_then (tally_where h number) (buffer_at h.plan number)

abbrev pub received_where : Standing → ℕ → Buffer → Option Arrival
received_where h number b = if is_receive b.mode then held_at h number else None

abbrev pub received_at : Standing → ℕ → Option Arrival
received_at h number = option_and_then (received_where h number) (buffer_at h.plan number)
