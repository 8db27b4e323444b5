-- A new bus without a record, and its seals.
use Rattle.std.specs.Prelude.{◌≡◌, ℕ, ◌*◌, ◌/◌, nat_le, Bool, true, false, ◌&&◌, Some, None, Result, Ok, Err}
use Rattle.fr_bus.specs.Courses.{opportunities}
use Rattle.fr_bus.specs.declared.error.BusError.{BusError}
use Rattle.fr_bus.specs.declared.error.BusError.TheVariants.{BadCycles, Memory}
use Rattle.fr_bus.specs.Standing.{LiveStanding, IsLiveHistory, ForEachLiveHistory, roomless, bare}
use Rattle.fr_bus.specs.States.{new_bus, seal_refusal, sealed_now}
use Rattle.fr_schedule.specs.Clusters.{IsCluster}
use Rattle.fr_schedule.specs.Descriptions.{Description}
use Rattle.fr_slots.specs.Numbers.{last_slot_limit}
use Rattle.fr_slots.specs.Parameters.{Parameters}

-- the greatest number of cycles (project-defined)
abbrev pub most_live_cycles : ℕ
most_live_cycles = 4000000

-- The greatest number of windows of a run (project-defined). Each takes two of the slot entries that a journal without
-- limit in its plan has room for: a fetch and an observation.
abbrev pub most_live_windows : ℕ
most_live_windows = last_slot_limit / 2

-- a run has some cycles, and each interface has room for all its windows
abbrev pub cycles_suit : Parameters → ℕ → Bool
cycles_suit p cycles = nat_le 1 cycles && nat_le cycles most_live_cycles
    && nat_le (cycles * opportunities p) most_live_windows

-- A new bus is at the start of a run of the cluster, and of each cluster that has another room of journals alone. A
-- failed allocation is possible only if the number of cycles is valid.
abbrev pub OpensLive : Description → ℕ → Result LiveStanding BusError → Type 0
OpensLive d cycles (Ok h) = (cycles_suit d.params cycles ≡ true)
    × ((e : Description) → IsCluster e → roomless e ≡ roomless d → IsLiveHistory h (new_bus e cycles))
OpensLive d cycles (Err Memory) = cycles_suit d.params cycles ≡ true
OpensLive d cycles (Err e) = (cycles_suit d.params cycles ≡ false) × (e ≡ BadCycles)

-- The answer of a seal, and the data after it. A failed allocation is possible only if the seal is otherwise lawful.
-- It leaves the data unchanged.
abbrev pub SealsLive : LiveStanding → Result (Unit {0}) BusError → LiveStanding → Type 0
SealsLive old (Ok x) new = (seal_refusal (bare old.bus) ≡ None)
    × ForEachLiveHistory old (λ b. IsLiveHistory new (sealed_now b))
SealsLive old (Err Memory) new = (seal_refusal (bare old.bus) ≡ None) × (new ≡ old)
SealsLive old (Err e) new = (seal_refusal (bare old.bus) ≡ Some e) × (new ≡ old)
