-- The data that a bus keeps for its calls, in place of the windows before.
use Rattle.std.specs.Prelude.{◌≡◌, ℕ, List, [], map, Option, Some, None, Result, Ok, Err}
use Rattle.fr_bus.specs.Courses.{Standpoint, course_of}
use Rattle.fr_bus.specs.declared.error.BusError.{BusError}
use Rattle.fr_bus.specs.declared.error.BusError.TheVariants.{Memory}
use Rattle.fr_bus.specs.declared.error.Phase.{Phase}
use Rattle.fr_bus.specs.Outcome.{longest}
use Rattle.fr_bus.specs.Record.{Recorded}
use Rattle.fr_bus.specs.States.{BusState, IsRun, seal_refusal, outcome_of, last_recorded}
use Rattle.fr_bus.specs.Stations.{Station}
use Rattle.fr_schedule.specs.Descriptions.{Description}
use Rattle.fr_slots.specs.declared.channel.Channel.TheVariants.{A, B}
use Rattle.fr_slots.specs.Plans.{Plan, with_limits}
use Rattle.fr_slots.specs.Windows.{Opportunity}

-- ---- clusters that differ in the room of journals alone

abbrev pub no_room : Plan → Plan
no_room p = with_limits p 0 0

abbrev pub roomless : Description → Description
roomless d = record d { plans = map no_room d.plans }

-- ---- the kept data

pub record BusStanding : Type 0 where
  pub cluster : Description
  pub cycles : ℕ
  pub phase : Phase
  pub opened : Option Opportunity
  pub stations : List Station
  pub corrupt_a : Option ℕ
  pub corrupt_b : Option ℕ
  pub course : Standpoint

-- the kept data of a bus
abbrev pub standing_of : BusState → BusStanding
standing_of b = record {
  cluster = b.cluster;
  cycles = b.cycles;
  phase = b.phase;
  opened = b.opened;
  stations = b.stations;
  corrupt_a = b.corrupt_a;
  corrupt_b = b.corrupt_b;
  course = course_of b.cluster.params b.cycles b.sealed;
}

-- a bus with these data and this record
abbrev pub with_record : BusStanding → List Recorded → BusState
with_record h rs = record {
  cluster = h.cluster;
  cycles = h.cycles;
  phase = h.phase;
  opened = h.opened;
  stations = h.stations;
  corrupt_a = h.corrupt_a;
  corrupt_b = h.corrupt_b;
  sealed = rs;
}

-- the same without a record, of which all refusals are told
abbrev pub bare : BusStanding → BusState
bare h = with_record h []

abbrev pub with_cluster : BusStanding → Description → BusStanding
with_cluster h d = record h { cluster = d }

-- A run that leaves these data. Its cluster may have another room of journals, since a bus has no journals.
pub record IsBusHistory (h : BusStanding) (b : BusState) : Type 0 where
  pub run : IsRun b
  pub alike : roomless b.cluster ≡ roomless h.cluster
  pub leaves : standing_of b ≡ with_cluster h b.cluster

-- the property holds for each run that leads there
abbrev pub ForEachBusHistory : BusStanding → (BusState → Type 0) → Type 0
ForEachBusHistory h P = (b : BusState) → IsBusHistory h b → P b

-- ---- a seal in two steps

-- The answer to the question what the open window's outcome is. A failed allocation is possible only if the seal is
-- otherwise lawful.
abbrev pub Decides : BusStanding → Result Recorded BusError → Type 0
Decides h (Ok r) = (seal_refusal (bare h) ≡ None) × (h.opened ≡ Some r.window) × (r ≡ outcome_of (bare h) r.window)
Decides h (Err Memory) = seal_refusal (bare h) ≡ None
Decides h (Err e) = seal_refusal (bare h) ≡ Some e

-- the open window, and the bytes of the longest transmissions that pass in it on A and on B
pub record IsDecided (h : BusStanding) (w : Opportunity) (a b : ℕ) : Type 0 where
  pub accepted : seal_refusal (bare h) ≡ None
  pub opened : h.opened ≡ Some w
  pub on_a : a ≡ longest A (outcome_of (bare h) w).sent
  pub on_b : b ≡ longest B (outcome_of (bare h) w).sent

-- ---- a bus with its last window

pub record LiveStanding : Type 0 where
  pub bus : BusStanding
  pub last : Option Recorded

-- a run that leaves these data and has this last window
pub record IsLiveHistory (h : LiveStanding) (b : BusState) : Type 0 where
  pub of_bus : IsBusHistory h.bus b
  pub last_is : last_recorded b ≡ h.last

abbrev pub ForEachLiveHistory : LiveStanding → (BusState → Type 0) → Type 0
ForEachLiveHistory h P = (b : BusState) → IsLiveHistory h b → P b
