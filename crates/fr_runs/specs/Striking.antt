-- The windows in which the fault of a line occurs (project-defined).
use Rattle.std.specs.Prelude.{ℕ, ◌==◌, nat_le, not, Bool, true, false, ◌&&◌, Option, Some, None}
use Rattle.fr_bus.specs.declared.fault.Fault.{Fault}
use Rattle.fr_bus.specs.declared.fault.Fault.TheVariants.{Babble, Mute, Corrupt}
use Rattle.fr_runs.specs.Cycles.{cycles_within, names_cycle}
use Rattle.fr_runs.specs.declared.fault_line.FaultLine.{FaultLine}
use Rattle.fr_runs.specs.declared.fault_line.FaultPlace.{FaultPlace}
use Rattle.fr_runs.specs.declared.fault_line.FaultPlace.TheVariants.{EveryWindow, EverySlot, Slot, Slots}
use Rattle.fr_runs.specs.declared.fault_line.FaultPlace.TheVariants.{EveryMinislot, Minislot, Dynamic}
use Rattle.fr_slots.specs.declared.channel.Channel.{Channel}
use Rattle.fr_slots.specs.Windows.{Opportunity, is_static, slot_of}

-- the channel opens the slot of this number
abbrev pub opens : ℕ → Option ℕ → Bool
opens number None = false
opens number (Some slot) = slot == number

-- the channel opens one of the slots from the first to the last
abbrev pub opens_one : ℕ → ℕ → Option ℕ → Bool
opens_one first last None = false
opens_one first last (Some slot) = nat_le first slot && nat_le slot last

-- The window is named for a fault on this channel. Both channels open the slot of a static window together; a dynamic
-- slot is looked for on the fault's channel alone.
abbrev pub names_window : FaultPlace → Channel → Opportunity → Bool
names_window EveryWindow channel window = true
names_window EverySlot channel window = is_static window
names_window (Slot number) channel window = is_static window && opens number window.a
names_window (Slots first last) channel window = is_static window && opens_one first last window.a
names_window EveryMinislot channel window = not (is_static window)
names_window (Minislot number) channel window = not (is_static window) && window.minislot == number
names_window (Dynamic number) channel window = not (is_static window) && opens number (slot_of window channel)

-- the channel of the fault
abbrev pub channel_of : Fault → Channel
channel_of (Babble node channel bytes) = channel
channel_of (Mute node channel) = channel
channel_of (Corrupt channel bit) = channel

-- the fault of the line occurs in this window, which is in the cycle of this number of the run
abbrev pub strikes : FaultLine → ℕ → Opportunity → Bool
strikes line cycle window =
    names_cycle line.cycles cycle && names_window line.place (channel_of line.fault) window

-- the line without the cycles that a run of so many cycles lacks
abbrev pub line_within : ℕ → FaultLine → FaultLine
line_within cycles line = record line { cycles = cycles_within cycles line.cycles }
