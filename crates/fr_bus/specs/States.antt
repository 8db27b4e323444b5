-- The view of a bus, the answers and effects of its calls, and the properties of every bus.
use Rattle.std.specs.Prelude.{◌≡◌, ℕ, ◌≤◌, ◌<◌, ◌-◌, ◌*◌, ◌^◌, ◌==◌, nat_lt, nat_le, Bool, true, false, not, ◌&&◌, List}
use Rattle.std.specs.Prelude.{[], ◌∷◌, ◌++◌}
use Rattle.std.specs.Prelude.{length, replicate, Option, Some, None, is_some, option_map, Result, Ok, Err, Contains}
use Rattle.std.specs.Prelude.{slice_set, slice_index_or, slice_get, if◌then◌else◌}
use Rattle.std.specs.List.{list_all}
use Rattle.arrayvec.specs.ArrayVec.{ArrayVec}
use Rattle.fr_bus.specs.declared.error.BusError.{BusError}
use Rattle.fr_bus.specs.declared.error.BusError.TheVariants.{UnknownNode, NotCollecting, WrongWindow, AlreadyPut}
use Rattle.fr_bus.specs.declared.error.BusError.TheVariants.{TooManyFaults, NotAllPut, NotSealed, AlreadyTaken}
use Rattle.fr_bus.specs.declared.error.BusError.TheVariants.{NotAllTaken, BadCycles, Memory}
use Rattle.fr_bus.specs.declared.error.Phase.{Phase}
use Rattle.fr_bus.specs.declared.error.Phase.TheVariants.{Collect, Sealed as InSealed, Finished}
use Rattle.fr_bus.specs.declared.fault.Fault.{Fault}
use Rattle.fr_bus.specs.declared.fault.Fault.TheVariants.{Babble, Mute, Corrupt}
use Rattle.fr_bus.specs.declared.outcome.Sent.{Sent}
use Rattle.fr_bus.specs.declared.station.Side.{Side}
use Rattle.fr_bus.specs.Stations.{Station}
pub use Rattle.fr_bus.specs.Stations.{silent_side}
use Rattle.fr_bus.specs.Courses.{opportunities}
use Rattle.fr_bus.specs.Windows.{following}
use Rattle.fr_bus.specs.Outcome.{sent_from, all_passed}
use Rattle.fr_bus.specs.Record.{Recorded, IsOutcome, seen_by, side_on, heard_last}
use Rattle.fr_interface.specs.declared.interface.Offer.{Offer}
use Rattle.fr_schedule.specs.Clusters.{IsCluster}
use Rattle.fr_schedule.specs.Descriptions.{Description, is_guarded}
use Rattle.fr_schedule.specs.SenderTable.{IsSender}
use Rattle.fr_slots.specs.declared.channel.Channel.{Channel}
use Rattle.fr_slots.specs.declared.channel.Channel.TheVariants.{A, B}
use Rattle.fr_slots.specs.History.{AllAfter}
use Rattle.fr_slots.specs.Windows.{Opportunity, slot_of, is_static}
use Rattle.fr_status.specs.Forms.{Seen}
use Rattle.fr_status.specs.declared.seen.Seen.TheVariants.{Silence}

pub record BusState : Type 0 where
  pub cluster : Description
  pub cycles : ℕ
  pub phase : Phase
  pub opened : Option Opportunity
  pub stations : List Station
  pub corrupt_a : Option ℕ
  pub corrupt_b : Option ℕ
  pub sealed : List Recorded

abbrev pub collects : Phase → Bool
collects Collect = true
collects InSealed = false
collects Finished = false

abbrev pub seals : Phase → Bool
seals Collect = false
seals InSealed = true
seals Finished = false

-- ---- the properties of every bus

abbrev pub last_recorded : BusState → Option Recorded
last_recorded b = slice_get b.sealed (length b.sealed - 1)

-- the window that follows those of the record
abbrev pub next_of_bus : BusState → Option Opportunity
next_of_bus b = following b.cluster.params b.cycles b.sealed

-- each window of the record is the one that follows those before it, and has the outcome of some offers and faults
abbrev pub IsRecorded : Description → ℕ → List Recorded → Recorded → Type 0
IsRecorded d cycles before r = (following d.params cycles before ≡ Some r.window) × IsOutcome d r

-- the open window
abbrev pub Stands : Phase → BusState → Type 0
Stands Collect b = (b.opened ≡ next_of_bus b) × (is_some b.opened ≡ true)
Stands InSealed b = (b.opened ≡ option_map (λ (r : Recorded). r.window) (last_recorded b)) × (is_some b.opened ≡ true)
Stands Finished b = (b.opened ≡ None) × (next_of_bus b ≡ None)

-- a run of the cluster, in which the number of every window fits
pub record IsRun (b : BusState) : Type 0 where
  pub lawful : IsCluster b.cluster
  pub some_cycles : 1 ≤ b.cycles
  pub few_windows : b.cycles * opportunities b.cluster.params < 2 ^ 32
  pub one_each : length b.stations ≡ length b.cluster.plans
  pub recorded : AllAfter (IsRecorded b.cluster b.cycles) [] b.sealed
  pub stands : Stands b.phase b

-- in a static slot of a guarded channel, everything that passed is from the slot's sender, and there is at most one
abbrev pub OneSenderEach : Description → List Recorded → Type 0
OneSenderEach d rs = (r : Recorded) (channel : Channel) (slot : ℕ) (t : Sent)
    → Contains rs r
    → is_static r.window ≡ true
    → is_guarded d.guard channel ≡ true
    → slot_of r.window channel ≡ Some slot
    → Contains (all_passed channel r.sent) t
    → IsSender d r.window.cycle slot channel t.node

-- ---- the stations

abbrev pub idle_station : Station
idle_station = record { put = false; taken = false; a = silent_side; b = silent_side }

abbrev pub station_at : BusState → ℕ → Station
station_at b node = slice_index_or b.stations node idle_station

abbrev pub with_station : BusState → ℕ → Station → BusState
with_station b node s = record b { stations = slice_set b.stations node s }

abbrev pub with_side : Channel → Side → Station → Station
with_side A side s = record s { a = side }
with_side B side s = record s { b = side }

abbrev pub offering : Station → Offer → Station
offering s offer = record s { put = true; a = record s.a { offer = offer.a }; b = record s.b { offer = offer.b } }

abbrev pub taking : Station → Station
taking s = record s { taken = true }

abbrev pub babbling : Channel → ArrayVec ℕ → Station → Station
babbling channel bytes s = with_side channel (record (side_on channel s) { babble = Some bytes }) s

abbrev pub muting : Channel → Station → Station
muting channel s = with_side channel (record (side_on channel s) { mute = true }) s

abbrev pub is_put : Station → Bool
is_put s = s.put

abbrev pub is_taken : Station → Bool
is_taken s = s.taken

abbrev pub all_put : BusState → Bool
all_put b = list_all is_put b.stations

abbrev pub all_taken : BusState → Bool
all_taken b = list_all is_taken b.stations

-- ---- a new bus

abbrev pub cycles_fit : ℕ → Bool
cycles_fit cycles = nat_le 1 cycles && nat_le cycles 1024

abbrev pub new_bus : Description → ℕ → BusState
new_bus d cycles = record {
  cluster = d;
  cycles = cycles;
  phase = Collect;
  opened = following d.params cycles [];
  stations = replicate (length d.plans) idle_station;
  corrupt_a = None;
  corrupt_b = None;
  sealed = [];
}

-- a failed allocation is possible only if the number of cycles is valid
abbrev pub Opens : Description → ℕ → Result BusState BusError → Type 0
Opens d cycles (Ok b) = (cycles_fit cycles ≡ true) × (b ≡ new_bus d cycles)
Opens d cycles (Err Memory) = cycles_fit cycles ≡ true
Opens d cycles (Err e) = (cycles_fit cycles ≡ false) × (e ≡ BadCycles)

-- ---- offers

-- the open window while nodes offer
abbrev pub collecting_of : BusState → Option Opportunity
collecting_of b = if collects b.phase then b.opened else None

abbrev pub has_number : ℕ → Option Opportunity → Bool
has_number number None = false
has_number number (Some w) = w.number == number

abbrev pub is_node : BusState → ℕ → Bool
is_node b node = nat_lt node (length b.stations)

abbrev pub put_refusal : BusState → ℕ → ℕ → Option BusError
put_refusal b node number =
    if not (is_node b node) then Some UnknownNode
    else if not (collects b.phase) then Some NotCollecting
    else if not (has_number number b.opened) then Some WrongWindow
    else if (station_at b node).put then Some AlreadyPut
    else None

abbrev pub put_done : BusState → ℕ → Offer → BusState
put_done b node offer = with_station b node (offering (station_at b node) offer)

-- ---- faults

abbrev pub corrupt_in : BusState → Channel → Option ℕ
corrupt_in b A = b.corrupt_a
corrupt_in b B = b.corrupt_b

-- the fault's node, if it has one, is one of the cluster's
abbrev pub knows : BusState → Fault → Bool
knows b (Babble node channel bytes) = is_node b node
knows b (Mute node channel) = is_node b node
knows b (Corrupt channel bit) = true

-- the window has a fault of this kind, node and channel
abbrev pub has_fault : BusState → Fault → Bool
has_fault b (Babble node channel bytes) = is_some (side_on channel (station_at b node)).babble
has_fault b (Mute node channel) = (side_on channel (station_at b node)).mute
has_fault b (Corrupt channel bit) = is_some (corrupt_in b channel)

abbrev pub inject_refusal : BusState → Fault → Option BusError
inject_refusal b fault =
    if not (knows b fault) then Some UnknownNode
    else if not (collects b.phase) then Some NotCollecting
    else if has_fault b fault then Some TooManyFaults
    else None

abbrev pub inject_done : BusState → Fault → BusState
inject_done b (Babble node channel bytes) = with_station b node (babbling channel bytes (station_at b node))
inject_done b (Mute node channel) = with_station b node (muting channel (station_at b node))
inject_done b (Corrupt A bit) = record b { corrupt_a = Some bit }
inject_done b (Corrupt B bit) = record b { corrupt_b = Some bit }

-- ---- the end of a window

abbrev pub outcome_of : BusState → Opportunity → Recorded
outcome_of b w = record {
  window = w;
  sent = sent_from b.cluster w 0 b.stations;
  corrupt_a = b.corrupt_a;
  corrupt_b = b.corrupt_b;
}

abbrev pub seal_refusal : BusState → Option BusError
seal_refusal b =
    if not (collects b.phase) then Some NotCollecting
    else if not (all_put b) then Some NotAllPut
    else None

abbrev pub sealed_with : BusState → Option Opportunity → BusState
sealed_with b None = b
sealed_with b (Some w) = record b { phase = InSealed; sealed = b.sealed ++ outcome_of b w ∷ [] }

abbrev pub sealed_now : BusState → BusState
sealed_now b = sealed_with b b.opened

-- The answer of a seal, and the state after it. A failed allocation is possible only if the seal is otherwise lawful,
-- and leaves the state unchanged.
abbrev pub Seals : BusState → Result (Unit {0}) BusError → BusState → Type 0
Seals old (Ok x) new = (seal_refusal old ≡ None) × (new ≡ sealed_now old)
Seals old (Err Memory) new = (seal_refusal old ≡ None) × (new ≡ old)
Seals old (Err e) new = (seal_refusal old ≡ Some e) × (new ≡ old)

-- ---- the takes of nodes

abbrev pub take_refusal : BusState → ℕ → ℕ → Option BusError
take_refusal b node number =
    if not (is_node b node) then Some UnknownNode
    else if not (seals b.phase) then Some NotSealed
    else if not (has_number number b.opened) then Some WrongWindow
    else if (station_at b node).taken then Some AlreadyTaken
    else None

abbrev pub take_done : BusState → ℕ → BusState
take_done b node = with_station b node (taking (station_at b node))

abbrev pub seen_where : BusState → Option Recorded → Channel → ℕ → Seen
seen_where b None channel node = Silence
seen_where b (Some r) channel node = seen_by b.cluster.params r channel node

-- the node's observation on the channel of the last window of the record
abbrev pub seen_last : BusState → Channel → ℕ → Seen
seen_last b channel node = seen_where b (last_recorded b) channel node

-- the same for a node that sends nothing there
abbrev pub last_heard : BusState → Channel → Seen
last_heard b channel = heard_last b.cluster.params (last_recorded b) channel

-- ---- the next window

abbrev pub advance_refusal : BusState → Option BusError
advance_refusal b =
    if not (seals b.phase) then Some NotSealed
    else if not (all_taken b) then Some NotAllTaken
    else None

abbrev pub phase_at : Option Opportunity → Phase
phase_at None = Finished
phase_at (Some w) = Collect

-- the window that follows those of the record opens, without offers and faults, or the run is over
abbrev pub advanced : BusState → BusState
advanced b = record b {
  phase = phase_at (next_of_bus b);
  opened = next_of_bus b;
  stations = replicate (length b.stations) idle_station;
  corrupt_a = None;
  corrupt_b = None;
}
