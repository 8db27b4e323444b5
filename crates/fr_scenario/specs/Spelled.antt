-- The values that the lines of a scenario can spell.
use Rattle.std.specs.Prelude.{◌≡◌, ℕ, ◌<◌, ◌≤◌, ◌^◌, length, None}
use Rattle.fr_bus.specs.declared.fault.Fault.{Fault}
use Rattle.fr_bus.specs.declared.fault.Fault.TheVariants.{Babble, Mute, Corrupt}
use Rattle.fr_interface.specs.declared.call.Call.{Call}
use Rattle.fr_interface.specs.declared.call.Call.TheVariants.{Commit, Withdraw, Read, Pop}
use Rattle.fr_core.specs.declared.script.Line.{Line}
use Rattle.fr_frame.specs.Payload.{IsPayload, most_frame_bytes}
use Rattle.fr_journal.specs.Entries.{AreBytes}
use Rattle.fr_runs.specs.declared.cycles.RunCycles.{RunCycles}
use Rattle.fr_runs.specs.declared.cycles.RunCycles.TheVariants.{Every, Only, Span}
use Rattle.fr_runs.specs.declared.fault_line.FaultLine.{FaultLine}
use Rattle.fr_runs.specs.declared.fault_line.FaultPlace.{FaultPlace}
use Rattle.fr_runs.specs.declared.fault_line.FaultPlace.TheVariants.{EveryWindow, EverySlot, Slot, Slots}
use Rattle.fr_runs.specs.declared.fault_line.FaultPlace.TheVariants.{EveryMinislot, Minislot, Dynamic}
use Rattle.fr_scenario.specs.declared.spelled.SpelledLine.{SpelledLine}
use Rattle.fr_scenario.specs.declared.spelled.SpelledLine.TheVariants.{Host, Fault as FaultOf}
use Rattle.fr_scenario.specs.declared.version.Version.{Version}
use Rattle.fr_scenario.specs.declared.version.Version.TheVariants.{One, Two}

-- a run has at most 1,024 cycles, counted from 0
abbrev pub IsRunCycle : ℕ → Type 0
IsRunCycle cycle = cycle < 1024

-- ---- the calls of tasks

-- version 1 has no line for a withdraw
abbrev pub IsWithdrawSpelled : Version → ℕ → Type 0
IsWithdrawSpelled One buffer = ⊥
IsWithdrawSpelled Two buffer = buffer < 64

abbrev pub IsSpelledCall : Version → Call → Type 0
IsSpelledCall version (Commit buffer payload) = (buffer < 64) × IsPayload payload × AreBytes payload
IsSpelledCall version (Withdraw buffer) = IsWithdrawSpelled version buffer
IsSpelledCall version (Read buffer) = buffer < 64
IsSpelledCall version Pop = Unit {0}

-- nodes are 0 to 15 and tasks 0 to 7, and there is no answer
pub record IsSpelledHost (version : Version) (node task : ℕ) (line : Line) : Type 0 where
  pub node_fits : node < 16
  pub task_fits : task < 8
  pub cycle_fits : IsRunCycle line.cycle
  pub action_fits : IsSpelledCall version line.action
  pub unanswered : line.answer ≡ None

-- ---- faults

abbrev pub IsSpelledFault : Fault → Type 0
IsSpelledFault (Babble node channel bytes) =
    (node < 16) × (length bytes.items ≤ most_frame_bytes) × AreBytes bytes.items
IsSpelledFault (Mute node channel) = node < 16
IsSpelledFault (Corrupt channel bit) = bit < 2 ^ 16

-- versions 1 and 2 spell one cycle, or all
abbrev pub AreSpelledCycles : RunCycles → Type 0
AreSpelledCycles Every = Unit {0}
AreSpelledCycles (Only cycle) = IsRunCycle cycle
AreSpelledCycles (Span first last step) = ⊥

-- slots and minislots are counted from 1
pub record IsCounted (n : ℕ) : Type 0 where
  pub from_one : 1 ≤ n
  pub at_most : n ≤ 8000

-- versions 1 and 2 spell one static slot, all of them, or one minislot
abbrev pub IsSpelledPlace : FaultPlace → Type 0
IsSpelledPlace EveryWindow = ⊥
IsSpelledPlace EverySlot = Unit {0}
IsSpelledPlace (Slot slot) = IsCounted slot
IsSpelledPlace (Slots first last) = ⊥
IsSpelledPlace EveryMinislot = ⊥
IsSpelledPlace (Minislot minislot) = IsCounted minislot
IsSpelledPlace (Dynamic slot) = ⊥

pub record IsSpelledFaultLine (f : FaultLine) : Type 0 where
  pub fault_fits : IsSpelledFault f.fault
  pub cycles_fit : AreSpelledCycles f.cycles
  pub place_fits : IsSpelledPlace f.place

-- ---- the fault lines of version 3

-- also a span of cycles, whose step is at least 1
abbrev pub AreSaidCycles : RunCycles → Type 0
AreSaidCycles Every = Unit {0}
AreSaidCycles (Only cycle) = IsRunCycle cycle
AreSaidCycles (Span first last step) = (first ≤ last) × IsRunCycle last × (1 ≤ step) × (step < 1024)

-- also a span of static slots, one dynamic slot, and every window of a segment or of both
abbrev pub IsSaidPlace : FaultPlace → Type 0
IsSaidPlace EveryWindow = Unit {0}
IsSaidPlace EverySlot = Unit {0}
IsSaidPlace (Slot slot) = IsCounted slot
IsSaidPlace (Slots first last) = (first ≤ last) × IsCounted first × IsCounted last
IsSaidPlace EveryMinislot = Unit {0}
IsSaidPlace (Minislot minislot) = IsCounted minislot
IsSaidPlace (Dynamic slot) = IsCounted slot

pub record IsSaidFaultLine (f : FaultLine) : Type 0 where
  pub fault_fits : IsSpelledFault f.fault
  pub cycles_fit : AreSaidCycles f.cycles
  pub place_fits : IsSaidPlace f.place

-- ---- a line

abbrev pub IsSpelledLine : Version → SpelledLine → Type 0
IsSpelledLine version (Host node task line) = IsSpelledHost version node task line
IsSpelledLine version (FaultOf f) = IsSpelledFaultLine f
