-- The parts of a scenario's line that words spell. Each has one spelling.
use Rattle.std.specs.Prelude.{ℕ, ◌==◌, List, [], ◌∷◌, Option, Some, None, if◌then◌else◌}
use Rattle.std.specs.Str.{bytes_eq}
use Rattle.fr_runs.specs.declared.cycles.RunCycles.{RunCycles}
use Rattle.fr_runs.specs.declared.cycles.RunCycles.TheVariants.{Every, Only}
use Rattle.fr_runs.specs.declared.fault_line.FaultPlace.{FaultPlace}
use Rattle.fr_runs.specs.declared.fault_line.FaultPlace.TheVariants.{EverySlot, Slot, Minislot}
use Rattle.fr_scenario.specs.Parts.{star}
use Rattle.fr_text.specs.Reading.{◌>>=◌, number_in}

-- ---- cycles of a run

unfoldable pub run_cycle_in : List ℕ → Option ℕ
run_cycle_in word = do
  n ← number_in 1024 word
  Some n

unfoldable pub cycles_in : List ℕ → Option RunCycles
cycles_in word = if bytes_eq word star then Some Every else do
  cycle ← run_cycle_in word
  Some (Only cycle)

-- ---- places

-- a slot or minislot, 1 to 8000
unfoldable pub counted_in : List ℕ → Option ℕ
counted_in word = do
  n ← number_in 8001 word
  if n == 0 then None else Some n

-- static slots: one or all
unfoldable pub slots_in : List ℕ → Option FaultPlace
slots_in word = if bytes_eq word star then Some EverySlot else do
  slot ← counted_in word
  Some (Slot slot)

unfoldable pub minislot_in : List ℕ → Option FaultPlace
minislot_in word = do
  minislot ← counted_in word
  Some (Minislot minislot)

-- by the first letter
unfoldable pub place_in : List ℕ → Option FaultPlace
place_in [] = None
place_in (mark ∷ number) =
    if mark == 115 then slots_in number
    else if mark == 109 then minislot_in number
    else None
