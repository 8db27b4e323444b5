-- A whole run, one event after another (project-defined).
use Rattle.std.specs.Prelude.{◌≡◌, ℕ, zero, suc, List, [], ◌++◌, length, map, None}
use Rattle.std.specs.List.{flat_map, range_with_len}
use Rattle.fr_core.specs.declared.event.Event.{Event}
use Rattle.fr_core.specs.Scripts.{Scripted}
use Rattle.fr_core.specs.Worlds.{WorldState, opening_world}
use Rattle.fr_playing.specs.Calls.{Asked, asked_in, asked_of, DoesCalls}
use Rattle.fr_playing.specs.declared.call.ExecutedCall.{ExecutedCall}
use Rattle.fr_playing.specs.declared.play.Played.{Played}
use Rattle.fr_playing.specs.Windows.{PlaysWindows}
use Rattle.fr_runs.specs.declared.fault_line.FaultLine.{FaultLine}
use Rattle.fr_schedule.specs.Descriptions.{Description}
use Rattle.fr_playing.specs.Moving.{whole_window}

-- `due` are the events that are due in a window of all nodes, except the faults and the bus's advance.

-- ---- cycles

-- The cycle of this number of the run: these calls execute all its lines in order, and then come its windows.
abbrev pub PlaysCycle : ℕ → List Scripted → List FaultLine → List Event → WorldState → List ExecutedCall → WorldState
    → Type 0
PlaysCycle cycle scripts faults due old calls new =
    (called : WorldState) × (map asked_of calls ≡ asked_in cycle scripts) × DoesCalls old calls called
    × PlaysWindows cycle faults due called new

-- this number of cycles, with all their calls
unfoldable pub PlaysCycles : List Scripted → List FaultLine → List Event → ℕ → WorldState → List ExecutedCall
    → WorldState → Type 0
PlaysCycles scripts faults due zero old calls new = (calls ≡ []) × (new ≡ old)
PlaysCycles scripts faults due (suc n) old calls new =
    (mid : WorldState) × (before : List ExecutedCall) × (later : List ExecutedCall)
    × PlaysCycles scripts faults due n old before mid × PlaysCycle n scripts faults due mid later new
    × (calls ≡ before ++ later)

-- after the calls `before` come those of the cycle
abbrev pub AddsCycle : ℕ → List Scripted → List FaultLine → List Event → List ExecutedCall → List ExecutedCall
    → WorldState → WorldState → Type 0
AddsCycle cycle scripts faults due before after old new =
    (calls : List ExecutedCall) × (after ≡ before ++ calls) × PlaysCycle cycle scripts faults due old calls new

-- ---- the run

-- the calls of this number of cycles, one cycle after another
abbrev pub asked_by : ℕ → List Scripted → List Asked
asked_by cycles scripts = flat_map (λ cycle. asked_in cycle scripts) (range_with_len 0 cycles)

-- These are the results of a run of the cluster with these scripts, these faults and this number of cycles. They are
-- the world to which its events lead from the opening world, and the calls of its lines, each once.
pub record IsPlayed (d : Description) (scripts : List Scripted) (faults : List FaultLine) (cycles : ℕ) (played : Played)
    : Type 0 where
  pub cycles_are : PlaysCycles scripts faults (whole_window (length d.plans)) cycles (opening_world d cycles)
      played.calls.items played.world
  -- each line of the run is executed, once, and in this order
  pub asked : map asked_of played.calls.items ≡ asked_by cycles scripts
  -- the run is over
  pub over : played.world.bus.opened ≡ None
