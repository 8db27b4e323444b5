-- The data that a world keeps for its calls, in place of journals and record (project-defined).
use Rattle.std.specs.Prelude.{◌≡◌, ℕ, nat_lt, Bool, true, false, List, [], ◌∷◌, length, map, Result, Ok}
use Rattle.std.specs.Prelude.{Err, slice_index_or}
use Rattle.fr_bus.specs.declared.error.BusError.{BusError}
use Rattle.fr_bus.specs.declared.error.BusError.TheVariants.{BadCycles, Memory}
use Rattle.fr_bus.specs.Live.{cycles_suit}
use Rattle.fr_bus.specs.Standing.{LiveStanding, IsLiveHistory}
use Rattle.fr_core.specs.Agreement.{IsWorld}
use Rattle.fr_core.specs.Carried.{Carried, Idle}
use Rattle.fr_core.specs.Worlds.{WorldState, no_interface, new_interface, opening_world}
use Rattle.fr_interface.specs.Standing.{Standing, IsHistory, standing_of}
use Rattle.fr_interface.specs.State.{State}
use Rattle.fr_schedule.specs.Descriptions.{Description}
use Rattle.fr_slots.specs.Parameters.{Parameters}
use Rattle.fr_slots.specs.Plans.{Plan, with_limits}

-- the data of each interface and of the bus, and those that each controller carries
pub record LiveState : Type 0 where
  pub interfaces : List Standing
  pub bus : LiveStanding
  pub carried : List Carried

-- ---- one node

-- a placeholder for the data of a node that doesn't exist
abbrev pub no_standing : Standing
no_standing = standing_of no_interface

abbrev pub has_node : LiveState → ℕ → Bool
has_node l n = nat_lt n (length l.interfaces)

abbrev pub standing_at : LiveState → ℕ → Standing
standing_at l n = slice_index_or l.interfaces n no_standing

abbrev pub carried_at : LiveState → ℕ → Carried
carried_at l n = slice_index_or l.carried n Idle

-- ---- the worlds that lead there

-- each interface's history leads to its data
abbrev pub AreHistories : List Standing → List State → Type 0
AreHistories [] [] = Unit {0}
AreHistories [] (s ∷ ss) = ⊥
AreHistories (h ∷ hs) [] = ⊥
AreHistories (h ∷ hs) (s ∷ ss) = IsHistory h s × AreHistories hs ss

-- the histories of the world's interfaces and of its bus lead to these data
pub record Leads (w : WorldState) (l : LiveState) : Type 0 where
  pub interfaces_are : AreHistories l.interfaces w.interfaces
  pub bus_is : IsLiveHistory l.bus w.bus
  pub carried_are : w.carried ≡ l.carried

-- A world with its whole history that leads to these data.
pub record IsWorldHistory (l : LiveState) (w : WorldState) : Type 0 where
  pub leads : Leads w l
  pub world_is : IsWorld w

-- the property holds for each world that leads there
abbrev pub ForEachWorld : LiveState → (WorldState → Type 0) → Type 0
ForEachWorld l P = (w : WorldState) → IsWorldHistory l w → P w

abbrev pub ForEachLead : LiveState → (WorldState → Type 0) → Type 0
ForEachLead l P = (w : WorldState) → Leads w l → P w

-- ---- the opening world

-- the room of each node's journal, in entries of the host and of the controller
pub record Entries : Type 0 where
  pub host : ℕ
  pub slot : ℕ

-- the cluster, with this room for each journal
abbrev pub with_room : Entries → Description → Description
with_room room d = record d { plans = map (λ (p : Plan). with_limits p room.host room.slot) d.plans }

-- A new world is the opening one of the cluster with this room. A failed allocation is possible only if the number of
-- cycles is valid.
abbrev pub OpensLiveWorld : Description → ℕ → Entries → Result LiveState BusError → Type 0
OpensLiveWorld d cycles room (Ok l) =
    (cycles_suit d.params cycles ≡ true) × IsWorldHistory l (opening_world (with_room room d) cycles)
OpensLiveWorld d cycles room (Err Memory) = cycles_suit d.params cycles ≡ true
OpensLiveWorld d cycles room (Err e) = (cycles_suit d.params cycles ≡ false) × (e ≡ BadCycles)

-- ---- the parts of a new world

-- a new interface with this room
abbrev pub new_with : Parameters → Entries → Plan → State
new_with params room p = new_interface params (with_limits p room.host room.slot)

-- the same as `OpensLiveWorld`, of the data alone
abbrev pub OpensMachine : Description → ℕ → Entries → Result LiveState BusError → Type 0
OpensMachine d cycles room (Ok l) =
    (cycles_suit d.params cycles ≡ true) × Leads (opening_world (with_room room d) cycles) l
OpensMachine d cycles room (Err Memory) = cycles_suit d.params cycles ≡ true
OpensMachine d cycles room (Err e) = (cycles_suit d.params cycles ≡ false) × (e ≡ BadCycles)
