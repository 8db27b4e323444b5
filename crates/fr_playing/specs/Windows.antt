-- The windows of a cycle as events, all of which are accepted (project-defined).
use Rattle.std.specs.Prelude.{◌≡◌, ℕ, zero, suc, true, false, List, [], ◌∷◌, ◌++◌, Some}
use Rattle.std.specs.List.{flat_map}
use Rattle.fr_core.specs.declared.event.Event.{Event}
use Rattle.fr_core.specs.declared.event.Event.TheVariants.{Advance}
use Rattle.fr_core.specs.Worlds.{WorldState}
use Rattle.fr_runs.specs.declared.fault_line.FaultLine.{FaultLine}
use Rattle.fr_playing.specs.Moving.{is_at_cycle}
use Rattle.fr_playing.specs.Striking.{strike_events, Passes}
use Rattle.fr_slots.specs.Windows.{Opportunity}

-- the events of this window: its faults, then the due events of all nodes, and then the bus's advance
abbrev pub played_events : ℕ → List FaultLine → List Event → Opportunity → List Event
played_events cycle faults due window = flat_map (strike_events cycle window) faults ++ due ++ Advance ∷ []

-- ---- windows

-- the open window leads from `old` to `new`
abbrev pub PlaysWindow : ℕ → List FaultLine → List Event → WorldState → WorldState → Type 0
PlaysWindow cycle faults due old new =
    (window : Opportunity) × (old.bus.opened ≡ Some window) × Passes old (played_events cycle faults due window) new

-- this number of windows lead from `old` to `new`, and after each of them the bus stands within the cycle
unfoldable pub PlaysWithin : ℕ → List FaultLine → List Event → ℕ → WorldState → WorldState → Type 0
PlaysWithin cycle faults due zero old new = new ≡ old
PlaysWithin cycle faults due (suc n) old new =
    (mid : WorldState) × PlaysWithin cycle faults due n old mid × PlaysWindow cycle faults due mid new
    × (is_at_cycle new.bus.opened ≡ false)

-- windows up to the start of the next cycle, or to the end of the run
abbrev pub PlaysWindows : ℕ → List FaultLine → List Event → WorldState → WorldState → Type 0
PlaysWindows cycle faults due old new =
    (count : ℕ) × (before : WorldState) × PlaysWithin cycle faults due count old before
    × PlaysWindow cycle faults due before new × (is_at_cycle new.bus.opened ≡ true)
