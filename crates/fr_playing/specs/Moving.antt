-- The faults of a window and the steps that are due in it, as lists of events.
use Rattle.std.specs.Prelude.{◌≡◌, ℕ, zero, suc, ◌<◌, ◌⊎◌, Bool, true, false, List, [], ◌∷◌, ◌++◌}
use Rattle.std.specs.Prelude.{Option, Some, None, Ok, Err}
use Rattle.std.specs.List.{flat_map, range_with_len, fold}
use Rattle.fr_bus.specs.Record.{Recorded}
use Rattle.fr_bus.specs.States.{BusState, collecting_of}
use Rattle.fr_bus.specs.Windows.{cycles_begun}
use Rattle.fr_core.specs.declared.error.StepError.{StepError}
use Rattle.fr_core.specs.declared.error.StepError.TheVariants.{WrongTurn}
use Rattle.fr_core.specs.declared.event.Event.{Event}
use Rattle.fr_core.specs.declared.event.Event.TheVariants.{Observe, Seal, Advance}
pub use Rattle.fr_core.specs.Fronts.{offer_events, see_events}
use Rattle.fr_core.specs.Runs.{Answer, StepsAll}
use Rattle.fr_core.specs.Steps.{Steps}
use Rattle.fr_core.specs.Worlds.{WorldState}
use Rattle.fr_runs.specs.declared.fault_line.FaultLine.{FaultLine}
use Rattle.fr_playing.specs.Striking.{strike_events, Tries}
use Rattle.fr_slots.specs.Windows.{Opportunity, opens_cycle, run_cycle}

-- ---- the events

abbrev pub observe_events : ℕ → List Event
observe_events n = Observe n ∷ []

-- for each of `count` nodes
abbrev pub for_nodes : (ℕ → List Event) → ℕ → List Event
for_nodes events nodes = flat_map events (range_with_len 0 nodes)

-- the events that are due before the bus moves on, in a window in which nothing has been executed
abbrev pub whole_window : ℕ → List Event
whole_window nodes = for_nodes offer_events nodes ++ Seal ∷ for_nodes see_events nodes

-- All events that can be due before the bus moves on. An event that isn't due is refused, and changes nothing.
abbrev pub window_events : ℕ → List Event
window_events nodes = for_nodes observe_events nodes ++ whole_window nodes

-- an observe of one of so many nodes
abbrev pub IsObserveOf : ℕ → Event → Type 0
IsObserveOf nodes event = (n : ℕ) × (n < nodes) × (event ≡ Observe n)

-- ---- the faults

-- the number of the run's cycle of the window that follows those of this record
abbrev pub run_cycle_after : List Recorded → Opportunity → ℕ
run_cycle_after sealed window = run_cycle (cycles_begun sealed) window

-- the faults of the window that follows those of this record, in the order of their lines
abbrev pub struck_after : List FaultLine → List Recorded → Option Opportunity → List Event
struck_after faults sealed None = []
struck_after faults sealed (Some window) = flat_map (strike_events (run_cycle_after sealed window) window) faults

-- the faults of the open window, as long as it isn't sealed
abbrev pub struck_events : List FaultLine → BusState → List Event
struck_events faults b = struck_after faults b.sealed (collecting_of b)

-- Each fault takes effect, unless the window has a fault of its kind, node and channel: that one stays.
abbrev pub Strikes : List FaultLine → WorldState → WorldState → Type 0
Strikes faults old new = Tries old (struck_events faults old.bus) new

-- ---- hindrances

-- the first refusal that isn't `WrongTurn`
abbrev pub first_refusal : Option StepError → Answer → Option StepError
first_refusal (Some e) answer = Some e
first_refusal None (Ok reply) = None
first_refusal None (Err WrongTurn) = None
first_refusal None (Err e) = Some e

-- none if the bus's advance is accepted
abbrev pub hindrance : Option StepError → Answer → Option StepError
hindrance found (Ok reply) = None
hindrance (Some e) (Err last) = Some e
hindrance None (Err last) = Some last

-- the events lead from `old` to `new`, and this is the first refusal among them that isn't `WrongTurn`
abbrev pub DoesAll : WorldState → List Event → Option StepError → WorldState → Type 0
DoesAll old events found new =
    (answers : List Answer) × StepsAll old events answers new × (found ≡ fold first_refusal None answers)

-- ---- the open window

-- `faults` are the fault lines that are kept, in their order, and `due` are all events that can be due in a window.

-- the faults of the lines take effect as far as the bus accepts them, then come the events, and then the bus's advance;
-- this hinders the bus
abbrev pub MovesOn : List FaultLine → List Event → WorldState → Option StepError → WorldState → Type 0
MovesOn faults due old hinders new =
    (struck : WorldState) × (between : WorldState) × (found : Option StepError) × (last : Answer)
    × Strikes faults old struck × DoesAll struck due found between × Steps between Advance last new
    × (hinders ≡ hindrance found last)

-- ---- cycles

-- the open window is the first of its cycle, or the run is over
abbrev pub is_at_cycle : Option Opportunity → Bool
is_at_cycle None = true
is_at_cycle (Some window) = opens_cycle window

-- this number of windows lead from `old` to `new`, nothing hinders, and after each of them the bus stands within a
-- cycle
unfoldable pub WithinCycle : List FaultLine → List Event → ℕ → WorldState → WorldState → Type 0
WithinCycle faults due zero old new = new ≡ old
WithinCycle faults due (suc n) old new =
    (mid : WorldState) × WithinCycle faults due n old mid × MovesOn faults due mid None new
    × (is_at_cycle new.bus.opened ≡ false)

-- the largest number of windows of a cycle: one for each static slot and minislot
abbrev pub most_windows : ℕ
most_windows = 9023

-- the window that ends the cycle, or that something hinders
abbrev pub LastWindow : List FaultLine → List Event → WorldState → Option StepError → WorldState → Type 0
LastWindow faults due old hinders new =
    (count : ℕ) × (before : WorldState) × WithinCycle faults due count old before
    × MovesOn faults due before hinders new × (hinders ≡ None → is_at_cycle new.bus.opened ≡ true)

-- windows up to the start of the next cycle, or up to a hindrance; at most as many as a cycle can have
abbrev pub EndsCycle : List FaultLine → List Event → WorldState → Option StepError → WorldState → Type 0
EndsCycle faults due old hinders new =
    LastWindow faults due old hinders new ⊎ (WithinCycle faults due most_windows old new × (hinders ≡ None))

-- this number of cycles, without a hindrance
unfoldable pub PassesCycles : List FaultLine → List Event → ℕ → WorldState → WorldState → Type 0
PassesCycles faults due zero old new = new ≡ old
PassesCycles faults due (suc n) old new =
    (mid : WorldState) × PassesCycles faults due n old mid × EndsCycle faults due mid None new

-- this number of cycles, or fewer up to a hindrance
abbrev pub RunsCycles : List FaultLine → List Event → ℕ → WorldState → Option StepError → WorldState → Type 0
RunsCycles faults due cycles old None new = PassesCycles faults due cycles old new
RunsCycles faults due cycles old (Some e) new =
    (done : ℕ) × (before : WorldState) × (done < cycles) × PassesCycles faults due done old before
    × EndsCycle faults due before (Some e) new
