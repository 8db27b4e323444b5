-- The parts of a line of version 3 that words spell.
use Rattle.std.specs.Prelude.{ℕ, ◌+◌, ◌==◌, nat_le, List, [], ◌∷◌, take, drop, position, Option, Some, None}
use Rattle.std.specs.Prelude.{if◌then◌else◌}
use Rattle.std.specs.Str.{bytes_eq}
use Rattle.fr_names.specs.Names.{NamesOfNode, node_named, buffer_named}
use Rattle.fr_runs.specs.declared.cycles.RunCycles.{RunCycles}
use Rattle.fr_runs.specs.declared.cycles.RunCycles.TheVariants.{Every, Only, Span}
use Rattle.fr_runs.specs.declared.fault_line.FaultPlace.{FaultPlace}
use Rattle.fr_runs.specs.declared.fault_line.FaultPlace.TheVariants.{EveryWindow, EverySlot, Slot, Slots}
use Rattle.fr_runs.specs.declared.fault_line.FaultPlace.TheVariants.{EveryMinislot, Minislot, Dynamic}
use Rattle.fr_scenario.specs.PartReading.{run_cycle_in, counted_in}
use Rattle.fr_scenario.specs.Parts.{star}
use Rattle.fr_text.specs.Reading.{◌>>=◌, number_in}

-- ---- the parts before and after a mark

abbrev pub parted_at : List ℕ → Option ℕ → Option (List ℕ × List ℕ)
parted_at word None = None
parted_at word (Some at) = Some (take at word, drop (at + 1) word)

-- what stands before and after the first byte of this value, if the word has one
abbrev pub parted : ℕ → List ℕ → Option (List ℕ × List ℕ)
parted mark word = parted_at word (position (λ b. b == mark) word)

abbrev pub dash : ℕ
dash = 45

abbrev pub slash : ℕ
slash = 47

-- ---- cycles: `*`, C, C-D or C-D/STEP

-- 1 to 1023
unfoldable pub step_said : List ℕ → Option ℕ
step_said word = do
  n ← number_in 1024 word
  if n == 0 then None else Some n

abbrev pub span_of : ℕ → ℕ → ℕ → Option RunCycles
span_of first last step = if nat_le first last then Some (Span first last step) else None

-- the last cycle and the step, as two words
unfoldable pub with_step : ℕ → List ℕ → List ℕ → Option RunCycles
with_step first last step = do
  l ← run_cycle_in last
  s ← step_said step
  span_of first l s

unfoldable pub without_step : ℕ → List ℕ → Option RunCycles
without_step first last = do
  l ← run_cycle_in last
  span_of first l 1

-- what follows the dash
abbrev pub rest_of_span : ℕ → List ℕ → Option (List ℕ × List ℕ) → Option RunCycles
rest_of_span first rest None = without_step first rest
rest_of_span first rest (Some (last, step)) = with_step first last step

unfoldable pub one_cycle : List ℕ → Option RunCycles
one_cycle word = do
  c ← run_cycle_in word
  Some (Only c)

unfoldable pub span_said : List ℕ → List ℕ → Option RunCycles
span_said first rest = do
  f ← run_cycle_in first
  rest_of_span f rest (parted slash rest)

abbrev pub cycles_by_dash : List ℕ → Option (List ℕ × List ℕ) → Option RunCycles
cycles_by_dash word None = one_cycle word
cycles_by_dash word (Some (first, rest)) = span_said first rest

unfoldable pub cycles_said : List ℕ → Option RunCycles
cycles_said word = if bytes_eq word star then Some Every else cycles_by_dash word (parted dash word)

-- ---- places

abbrev pub slots_from : ℕ → ℕ → Option FaultPlace
slots_from first last = if nat_le first last then Some (Slots first last) else None

unfoldable pub one_slot : List ℕ → Option FaultPlace
one_slot word = do
  n ← counted_in word
  Some (Slot n)

unfoldable pub some_slots : List ℕ → List ℕ → Option FaultPlace
some_slots first last = do
  f ← counted_in first
  l ← counted_in last
  slots_from f l

abbrev pub slots_by_dash : List ℕ → Option (List ℕ × List ℕ) → Option FaultPlace
slots_by_dash word None = one_slot word
slots_by_dash word (Some (first, last)) = some_slots first last

-- after the letter s
unfoldable pub slots_said : List ℕ → Option FaultPlace
slots_said word = if bytes_eq word star then Some EverySlot else slots_by_dash word (parted dash word)

-- after the letter m
unfoldable pub minislots_said : List ℕ → Option FaultPlace
minislots_said word = if bytes_eq word star then Some EveryMinislot else do
  n ← counted_in word
  Some (Minislot n)

-- after the letter d
unfoldable pub dynamic_said : List ℕ → Option FaultPlace
dynamic_said word = do
  n ← counted_in word
  Some (Dynamic n)

-- by the first letter
unfoldable pub marked_place : List ℕ → Option FaultPlace
marked_place [] = None
marked_place (mark ∷ number) =
    if mark == 115 then slots_said number
    else if mark == 109 then minislots_said number
    else if mark == 100 then dynamic_said number
    else None

unfoldable pub place_said : List ℕ → Option FaultPlace
place_said word = if bytes_eq word star then Some EveryWindow else marked_place word

-- ---- nodes and buffers: a number, or otherwise a name

abbrev pub or_named : Option ℕ → Option ℕ → Option ℕ
or_named None named = named
or_named (Some n) named = Some n

unfoldable pub node_said : List NamesOfNode → List ℕ → Option ℕ
node_said names word = or_named (number_in 16 word) (node_named names word)

unfoldable pub buffer_said : List NamesOfNode → ℕ → List ℕ → Option ℕ
buffer_said names node word = or_named (number_in 64 word) (buffer_named names node word)
