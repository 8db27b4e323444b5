-- The view of a world (project-defined).
use Rattle.std.specs.Prelude.{◌≡◌, ℕ, nat_lt, Bool, true, false, List, [], length, map, replicate, Result, Ok, Err}
use Rattle.std.specs.Prelude.{slice_index_or}
use Rattle.fr_bus.specs.declared.error.BusError.{BusError}
use Rattle.fr_bus.specs.declared.error.BusError.TheVariants.{BadCycles, Memory}
use Rattle.fr_bus.specs.States.{BusState, new_bus, cycles_fit}
use Rattle.fr_core.specs.Carried.{Carried, Idle, Knows, Offers, Waits, Took}
use Rattle.fr_interface.specs.State.{State}
use Rattle.fr_schedule.specs.Descriptions.{Description}
use Rattle.fr_slots.specs.Parameters.{Parameters}
use Rattle.fr_slots.specs.Plans.{Plan, empty_plan}

-- an interface for each node, the bus, and the data that each node's controller carries
pub record WorldState : Type 0 where
  pub interfaces : List State
  pub bus : BusState
  pub carried : List Carried

-- ---- one node

abbrev pub no_params : Parameters
no_params = record {
  static_slots = 0;
  minislots = 0;
  static_words = 0;
  static_mt = 0;
  minislot_mt = 0;
  symbol_mt = 0;
  nit_mt = 0;
  cycle_mt = 0;
  idle = 0;
  words_per_minislot = 0;
}

-- a placeholder for the interface of a node that doesn't exist
abbrev pub no_interface : State
no_interface = record { params = no_params; plan = empty_plan 0 0 0 0 0; entries = [] }

abbrev pub has_node : WorldState → ℕ → Bool
has_node w n = nat_lt n (length w.interfaces)

abbrev pub interface_at : WorldState → ℕ → State
interface_at w n = slice_index_or w.interfaces n no_interface

abbrev pub carried_at : WorldState → ℕ → Carried
carried_at w n = slice_index_or w.carried n Idle

-- a controller that has observed every window that it fetched
abbrev pub is_between : Carried → Bool
is_between Idle = true
is_between (Knows window) = true
is_between (Offers window offer) = false
is_between (Waits window) = false
is_between (Took window a b) = false

-- ---- the opening world

abbrev pub new_interface : Parameters → Plan → State
new_interface params plan = record { params = params; plan = plan; entries = [] }

-- all journals are empty, the bus is at its first window, and every controller is idle
abbrev pub opening_world : Description → ℕ → WorldState
opening_world d cycles = record {
  interfaces = map (new_interface d.params) d.plans;
  bus = new_bus d cycles;
  carried = replicate (length d.plans) Idle;
}

-- a failed allocation is possible only if the number of cycles is valid
abbrev pub OpensWorld : Description → ℕ → Result WorldState BusError → Type 0
OpensWorld d cycles (Ok w) = (cycles_fit cycles ≡ true) × (w ≡ opening_world d cycles)
OpensWorld d cycles (Err Memory) = cycles_fit cycles ≡ true
OpensWorld d cycles (Err e) = (cycles_fit cycles ≡ false) × (e ≡ BadCycles)

-- ---- interfaces without their journals

abbrev pub without_entries : State → State
without_entries s = record { params = s.params; plan = s.plan; entries = [] }
