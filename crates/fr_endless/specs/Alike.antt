-- What happens to each world with its whole history, when only the data that a world keeps are there (project-defined).
use Rattle.std.specs.Prelude.{ℕ, List, length, map}
use Rattle.fr_core.specs.Worlds.{WorldState}
use Rattle.fr_interface.specs.State.{State}
use Rattle.fr_live.specs.LiveWorlds.{LiveState, IsWorldHistory}
use Rattle.fr_slots.specs.Plans.{Plan}

-- Each world that leads to the data before a call is in this relation to one that leads to the data after it.
abbrev pub Alike : LiveState → (WorldState → WorldState → Type 0) → LiveState → Type 0
Alike old Relates new =
    (w : WorldState) → IsWorldHistory old w → (v : WorldState) × Relates w v × IsWorldHistory new v

-- the number of buffers of each plan, and of each interface's plan
abbrev pub buffers_in : List Plan → List ℕ
buffers_in plans = map (λ (p : Plan). length p.buffers) plans

abbrev pub buffers_each : List State → List ℕ
buffers_each interfaces = map (λ (s : State). length s.plan.buffers) interfaces
