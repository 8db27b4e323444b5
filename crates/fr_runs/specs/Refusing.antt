-- Refusals of a run (project-defined).
use Rattle.std.specs.Prelude.{◌≡◌, ℕ, true, false, List, Option, Some, None}
use Rattle.fr_bus.specs.States.{cycles_fit}
use Rattle.fr_core.specs.Scripts.{Scripted}
use Rattle.fr_core.specs.Settling.{IsFirst}
use Rattle.fr_runs.specs.declared.check.RunRefusal.{RunRefusal}
use Rattle.fr_runs.specs.declared.check.RunRefusal.TheVariants.{BadCycles, BadScript, BadFault, NoRoom}
use Rattle.fr_runs.specs.declared.fault_line.FaultLine.{FaultLine}
use Rattle.fr_runs.specs.Suiting.{ScriptSuits, FaultSuits, HasRoom}
use Rattle.fr_schedule.specs.Descriptions.{Description}

abbrev pub EachScriptSuits : Description → ℕ → List Scripted → Type 0
EachScriptSuits d cycles scripts = (i : ℕ) → ScriptSuits d cycles scripts i

abbrev pub EachFaultSuits : Description → ℕ → List FaultLine → Type 0
EachFaultSuits d cycles faults = (i : ℕ) → FaultSuits d cycles faults i

-- The cycles, then the scripts, then the faults, then the room of each node's journal. The first that doesn't fit is
-- named, and if all fit, there is no refusal.
abbrev pub Refuses : Description → List Scripted → List FaultLine → ℕ → Option RunRefusal → Type 0
Refuses d scripts faults cycles None =
    (cycles_fit cycles ≡ true)
    × EachScriptSuits d cycles scripts
    × EachFaultSuits d cycles faults
    × ((n : ℕ) → HasRoom d cycles scripts n)
Refuses d scripts faults cycles (Some BadCycles) = cycles_fit cycles ≡ false
Refuses d scripts faults cycles (Some (BadScript i)) =
    (cycles_fit cycles ≡ true) × IsFirst (ScriptSuits d cycles scripts) i
Refuses d scripts faults cycles (Some (BadFault i)) =
    (cycles_fit cycles ≡ true) × EachScriptSuits d cycles scripts × IsFirst (FaultSuits d cycles faults) i
Refuses d scripts faults cycles (Some (NoRoom n)) =
    (cycles_fit cycles ≡ true)
    × EachScriptSuits d cycles scripts
    × EachFaultSuits d cycles faults
    × IsFirst (HasRoom d cycles scripts) n
