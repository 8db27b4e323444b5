-- Scripts of tasks, and faults, that fit a cluster and a run of so many cycles (project-defined).
use Rattle.std.specs.Prelude.{◌≡◌, ℕ, ◌+◌, ◌-◌, ◌*◌, ◌<◌, ◌≤◌, ◌==◌, nat_lt, nat_le, min, max, Bool, true, false, not}
use Rattle.std.specs.Prelude.{◌&&◌, ◌||◌, List, length, take, slice_get, Option, Some, None, is_some, IfSome}
use Rattle.std.specs.Prelude.{if◌then◌else◌}
use Rattle.std.specs.List.{list_all, list_any, range_with_len, sum_by, AllAdjacentBelow}
use Rattle.fr_bus.specs.declared.fault.Fault.{Fault}
use Rattle.fr_bus.specs.declared.fault.Fault.TheVariants.{Babble, Mute, Corrupt}
use Rattle.fr_interface.specs.declared.call.Call.{Call}
use Rattle.fr_interface.specs.declared.call.Call.TheVariants.{Commit, Withdraw, Read, Pop}
use Rattle.fr_core.specs.declared.script.Line.{Line}
use Rattle.fr_core.specs.Scripts.{Scripted, is_for}
use Rattle.fr_runs.specs.Cycles.{names_cycle}
use Rattle.fr_runs.specs.declared.cycles.RunCycles.{RunCycles}
use Rattle.fr_runs.specs.declared.cycles.RunCycles.TheVariants.{Every, Only, Span}
use Rattle.fr_runs.specs.declared.fault_line.FaultLine.{FaultLine}
use Rattle.fr_runs.specs.declared.fault_line.FaultPlace.{FaultPlace}
use Rattle.fr_runs.specs.declared.fault_line.FaultPlace.TheVariants.{EveryWindow, EverySlot, Slot, Slots}
use Rattle.fr_runs.specs.declared.fault_line.FaultPlace.TheVariants.{EveryMinislot, Minislot, Dynamic}
use Rattle.fr_schedule.specs.Descriptions.{Description}
use Rattle.fr_slots.specs.Admission.{is_channel}
use Rattle.fr_slots.specs.declared.plan.Buffer.{Buffer}
use Rattle.fr_slots.specs.Faults.{transmits, words_of}
use Rattle.fr_slots.specs.Parameters.{Parameters}
use Rattle.fr_slots.specs.Plans.{Plan, is_receive, buffer_at}

-- ---- scripts

-- the buffer exists, transmits, and sends payloads of this length
abbrev pub sends : Parameters → List ℕ → Option Buffer → Bool
sends p payload None = false
sends p payload (Some b) = transmits b && length payload == 2 * words_of p b

-- the buffer exists and transmits
abbrev pub is_transmit : Option Buffer → Bool
is_transmit None = false
is_transmit (Some b) = transmits b

-- the buffer exists and receives
abbrev pub receives : Option Buffer → Bool
receives None = false
receives (Some b) = is_receive b.mode

-- the node has the buffer or receive FIFO that the call needs
abbrev pub call_suits : Parameters → Plan → Call → Bool
call_suits p plan (Commit buffer payload) = sends p payload (buffer_at plan buffer)
call_suits p plan (Withdraw buffer) = is_transmit (buffer_at plan buffer)
call_suits p plan (Read buffer) = receives (buffer_at plan buffer)
call_suits p plan Pop = is_some plan.queue

-- in addition, the run has the line's cycle
abbrev pub line_suits : Parameters → Plan → ℕ → Line → Bool
line_suits p plan cycles line = nat_lt line.cycle cycles && call_suits p plan line.action

-- each line's cycle is at least that of the line before it
abbrev pub AreInOrder : List Line → Type 0
AreInOrder lines = AllAdjacentBelow (λ (one : Line) (next : Line). one.cycle ≤ next.cycle) lines (length lines)

-- the node has the task, and the lines fit the node
pub record SuitsPlan (p : Parameters) (cycles : ℕ) (script : Scripted) (plan : Plan) : Type 0 where
  pub has_task : script.task < plan.tasks
  pub lines_suit : list_all (line_suits p plan cycles) script.lines ≡ true
  pub in_order : AreInOrder script.lines

abbrev pub SuitsNode : Parameters → ℕ → Scripted → Option Plan → Type 0
SuitsNode p cycles script None = ⊥
SuitsNode p cycles script (Some plan) = SuitsPlan p cycles script plan

-- the cluster has the node, the script fits it, and no earlier one is for the same task
pub record IsScriptAfter (d : Description) (cycles : ℕ) (before : List Scripted) (script : Scripted) : Type 0 where
  pub suits : SuitsNode d.params cycles script (slice_get d.plans script.node)
  pub only : list_any (is_for script.node script.task) before ≡ false

abbrev pub ScriptSuits : Description → ℕ → List Scripted → ℕ → Type 0
ScriptSuits d cycles scripts i = IfSome (slice_get scripts i) (IsScriptAfter d cycles (take i scripts))

-- ---- faults

-- the cluster has the fault's node, if the fault has one
abbrev pub has_node : ℕ → Fault → Bool
has_node nodes (Babble node channel bytes) = nat_lt node nodes
has_node nodes (Mute node channel) = nat_lt node nodes
has_node nodes (Corrupt channel bit) = true

-- the run has the cycle, or the first cycle of the span
abbrev pub has_cycle : ℕ → RunCycles → Bool
has_cycle cycles Every = true
has_cycle cycles (Only cycle) = nat_lt cycle cycles
has_cycle cycles (Span first last step) = nat_lt first cycles && nat_le first last && not (step == 0)

-- Slots and minislots are numbered from 1. Dynamic slots come after the static ones, and a cycle opens at most one for
-- each minislot.
abbrev pub has_place : Parameters → FaultPlace → Bool
has_place p EveryWindow = true
has_place p EverySlot = true
has_place p (Slot number) = nat_le 1 number && nat_le number p.static_slots
has_place p (Slots first last) = nat_le 1 first && nat_le first last && nat_le last p.static_slots
has_place p EveryMinislot = true
has_place p (Minislot number) = nat_le 1 number && nat_le number p.minislots
has_place p (Dynamic number) = nat_lt p.static_slots number && nat_le number (p.static_slots + p.minislots)

-- the run has the node, cycle and place of the line
abbrev pub line_fits : Description → ℕ → FaultLine → Bool
line_fits d cycles line =
    has_node (length d.plans) line.fault && has_cycle cycles line.cycles && has_place d.params line.place

-- both are of the same kind, node and channel
abbrev pub are_alike : Fault → Fault → Bool
are_alike (Babble n c bytes) (Babble m e others) = n == m && is_channel c e
are_alike (Babble n c bytes) (Mute m e) = false
are_alike (Babble n c bytes) (Corrupt e other) = false
are_alike (Mute n c) (Babble m e others) = false
are_alike (Mute n c) (Mute m e) = n == m && is_channel c e
are_alike (Mute n c) (Corrupt e other) = false
are_alike (Corrupt c bit) (Babble m e others) = false
are_alike (Corrupt c bit) (Mute m e) = false
are_alike (Corrupt c bit) (Corrupt e other) = is_channel c e

-- both name this cycle
abbrev pub names_both : RunCycles → RunCycles → ℕ → Bool
names_both cycles others cycle = names_cycle cycles cycle && names_cycle others cycle

-- They have a cycle in common, perhaps after the end of the run. Two spans can share those from the greater first to
-- the smaller last cycle.
abbrev pub cycles_meet : RunCycles → RunCycles → Bool
cycles_meet Every others = true
cycles_meet (Only cycle) others = names_cycle others cycle
cycles_meet (Span first last step) Every = true
cycles_meet (Span first last step) (Only other) = names_cycle (Span first last step) other
cycles_meet (Span first last step) (Span from to by) =
    list_any (names_both (Span first last step) (Span from to by))
    (range_with_len (max first from) (min last to + 1 - max first from))

-- the place has static slots
abbrev pub has_static : FaultPlace → Bool
has_static EveryWindow = true
has_static EverySlot = true
has_static (Slot number) = true
has_static (Slots first last) = true
has_static EveryMinislot = false
has_static (Minislot number) = false
has_static (Dynamic number) = false

-- the place has windows of the dynamic segment
abbrev pub has_dynamic : FaultPlace → Bool
has_dynamic EveryWindow = true
has_dynamic EverySlot = false
has_dynamic (Slot number) = false
has_dynamic (Slots first last) = false
has_dynamic EveryMinislot = true
has_dynamic (Minislot number) = true
has_dynamic (Dynamic number) = true

-- the first and the last static slot of the place, if it has only some
abbrev pub first_static : FaultPlace → Option ℕ
first_static (Slot number) = Some number
first_static (Slots first last) = Some first
first_static other = None

abbrev pub last_static : FaultPlace → Option ℕ
last_static (Slot number) = Some number
last_static (Slots first last) = Some last
last_static other = None

-- the minislot of the place, if it has only one
abbrev pub minislot_of : FaultPlace → Option ℕ
minislot_of (Minislot number) = Some number
minislot_of other = None

-- the dynamic slot of the place, if it has only one
abbrev pub dynamic_of : FaultPlace → Option ℕ
dynamic_of (Dynamic number) = Some number
dynamic_of other = None

-- the first number isn't after the last, if there are both
abbrev pub in_order : Option ℕ → Option ℕ → Bool
in_order None last = true
in_order (Some first) None = true
in_order (Some first) (Some last) = nat_le first last

-- the numbers are the same, if there are both
abbrev pub agree : Option ℕ → Option ℕ → Bool
agree None other = true
agree (Some number) None = true
agree (Some number) (Some other) = number == other

-- their static slots have one in common
abbrev pub slots_meet : FaultPlace → FaultPlace → Bool
slots_meet place other =
    in_order (first_static place) (last_static other) && in_order (first_static other) (last_static place)

-- Their windows of the dynamic segment have one in common. A dynamic slot may open at any minislot, and two dynamic
-- slots have no window in common.
abbrev pub minislots_meet : FaultPlace → FaultPlace → Bool
minislots_meet place other =
    agree (minislot_of place) (minislot_of other) && agree (dynamic_of place) (dynamic_of other)

-- They have a window in common for a fault on one channel. This takes a window to open at each minislot, and a dynamic
-- slot to open at each of them.
abbrev pub places_meet : FaultPlace → FaultPlace → Bool
places_meet place other =
    has_static place && has_static other && slots_meet place other
    || has_dynamic place && has_dynamic other && minislots_meet place other

-- both name a common window for the same kind, node and channel
abbrev pub lines_meet : FaultLine → FaultLine → Bool
lines_meet line other =
    are_alike line.fault other.fault && places_meet line.place other.place && cycles_meet line.cycles other.cycles

-- the line fits, and no earlier line names a window that it names
pub record IsFaultAfter (d : Description) (cycles : ℕ) (before : List FaultLine) (line : FaultLine) : Type 0 where
  pub fits : line_fits d cycles line ≡ true
  pub only : list_any (lines_meet line) before ≡ false

abbrev pub FaultSuits : Description → ℕ → List FaultLine → ℕ → Type 0
FaultSuits d cycles faults i = IfSome (slice_get faults i) (IsFaultAfter d cycles (take i faults))

-- ---- room

-- the lines of all scripts for the tasks of the node
abbrev pub lines_for : ℕ → List Scripted → ℕ
lines_for node scripts = sum_by (λ (s : Scripted). if s.node == node then length s.lines else 0) scripts

-- each window is fetched and observed, and a cycle has at most one for each static slot and minislot
abbrev pub most_slot_entries_in : Parameters → ℕ → ℕ
most_slot_entries_in p cycles = 2 * cycles * (p.static_slots + p.minislots)

-- the journal of the node has room for its scripts and for all windows of the run
pub record HasRoomIn (p : Parameters) (cycles : ℕ) (scripts : List Scripted) (node : ℕ) (plan : Plan) : Type 0 where
  pub host : lines_for node scripts ≤ plan.host_entries
  pub slot : most_slot_entries_in p cycles ≤ plan.slot_entries

abbrev pub HasRoom : Description → ℕ → List Scripted → ℕ → Type 0
HasRoom d cycles scripts n = IfSome (slice_get d.plans n) (HasRoomIn d.params cycles scripts n)
