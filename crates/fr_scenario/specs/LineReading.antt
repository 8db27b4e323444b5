-- The values that the words of a scenario's line spell.
use Rattle.std.specs.Prelude.{ℕ, List, [], ◌∷◌, codes, Option, Some, None, if◌then◌else◌}
use Rattle.std.specs.Str.{bytes_eq}
use Rattle.fr_bus.specs.declared.fault.Fault.{Fault}
use Rattle.fr_bus.specs.declared.fault.Fault.TheVariants.{Babble, Mute, Corrupt}
use Rattle.fr_interface.specs.declared.call.Call.{Call}
use Rattle.fr_frame.specs.Payload.{most_frame_bytes}
use Rattle.fr_lines.specs.PartReading.{channel_in}
use Rattle.fr_runs.specs.declared.cycles.RunCycles.{RunCycles}
use Rattle.fr_runs.specs.declared.fault_line.FaultLine.{FaultLine}
use Rattle.fr_runs.specs.declared.fault_line.FaultPlace.{FaultPlace}
use Rattle.fr_scenario.specs.declared.spelled.SpelledLine.{SpelledLine}
use Rattle.fr_scenario.specs.declared.spelled.SpelledLine.TheVariants.{Host, Fault as FaultOf}
use Rattle.fr_scenario.specs.declared.version.Version.{Version}
use Rattle.fr_scenario.specs.declared.version.Version.TheVariants.{One, Two}
use Rattle.fr_scenario.specs.CallReading.{call_in}
use Rattle.fr_scenario.specs.PartReading.{run_cycle_in, cycles_in, place_in}
use Rattle.fr_text.specs.Reading.{◌>>=◌, number_in, bytes_in}

-- ---- the calls of tasks

-- the line of a task, without an answer
abbrev pub host_line : ℕ → ℕ → ℕ → Call → SpelledLine
host_line node task cycle call = Host node task (record { cycle = cycle; action = call; answer = None })

-- version 1 has no withdraw
unfoldable pub told_call_in : Version → List ℕ → List (List ℕ) → Option Call
told_call_in One kind words = if bytes_eq kind (codes "withdraw") then None else call_in kind words
told_call_in Two kind words = call_in kind words

unfoldable pub host_in : Version → List ℕ → List (List ℕ) → Option SpelledLine
host_in version kind (node ∷ task ∷ cycle ∷ words) = do
  n ← number_in 16 node
  t ← number_in 8 task
  c ← run_cycle_in cycle
  call ← told_call_in version kind words
  Some (host_line n t c call)
host_in version kind words = None

-- ---- faults

abbrev pub fault_line : Fault → RunCycles → FaultPlace → SpelledLine
fault_line fault cycles place = FaultOf (record { fault = fault; cycles = cycles; place = place })

unfoldable pub babble_in : List (List ℕ) → Option SpelledLine
babble_in (node ∷ channel ∷ cycles ∷ place ∷ bytes ∷ []) = do
  n ← number_in 16 node
  c ← channel_in channel
  y ← cycles_in cycles
  p ← place_in place
  b ← bytes_in most_frame_bytes bytes
  Some (fault_line (Babble n c (record { items = b })) y p)
babble_in words = None

unfoldable pub mute_in : List (List ℕ) → Option SpelledLine
mute_in (node ∷ channel ∷ cycles ∷ place ∷ []) = do
  n ← number_in 16 node
  c ← channel_in channel
  y ← cycles_in cycles
  p ← place_in place
  Some (fault_line (Mute n c) y p)
mute_in words = None

unfoldable pub corrupt_in : List (List ℕ) → Option SpelledLine
corrupt_in (channel ∷ cycles ∷ place ∷ bit ∷ []) = do
  c ← channel_in channel
  y ← cycles_in cycles
  p ← place_in place
  b ← number_in 65536 bit
  Some (fault_line (Corrupt c b) y p)
corrupt_in words = None

-- ---- a line, by its first word

unfoldable pub line_in : Version → List (List ℕ) → Option SpelledLine
line_in version [] = None
line_in version (kind ∷ words) =
    if bytes_eq kind (codes "babble") then babble_in words
    else if bytes_eq kind (codes "mute") then mute_in words
    else if bytes_eq kind (codes "corrupt") then corrupt_in words
    else host_in version kind words

-- ---- a fault line alone

abbrev pub fault_said : Option SpelledLine → Option FaultLine
fault_said None = None
fault_said (Some (Host node task line)) = None
fault_said (Some (FaultOf fault)) = Some fault

-- the fault line that a line of version 2 spells
abbrev pub fault_line_in : List (List ℕ) → Option FaultLine
fault_line_in words = fault_said (line_in Two words)
