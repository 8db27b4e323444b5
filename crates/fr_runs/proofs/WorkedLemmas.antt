-- Fault lines and windows, worked out.
use Rattle.std.proofs.Common.{◌≡◌, true, false, Some, refl}
use Rattle.fr_bus.specs.declared.fault.Fault.TheVariants.{Mute, Corrupt}
use Rattle.fr_runs.specs.declared.cycles.RunCycles.{RunCycles}
use Rattle.fr_runs.specs.declared.cycles.RunCycles.TheVariants.{Every, Only, Span}
use Rattle.fr_runs.specs.declared.fault_line.FaultLine.{FaultLine}
use Rattle.fr_runs.specs.declared.fault_line.FaultPlace.{FaultPlace}
use Rattle.fr_runs.specs.declared.fault_line.FaultPlace.TheVariants.{EveryWindow, EverySlot, Slot, Slots}
use Rattle.fr_runs.specs.declared.fault_line.FaultPlace.TheVariants.{EveryMinislot, Minislot, Dynamic}
use Rattle.fr_runs.specs.Striking.{strikes}
use Rattle.fr_runs.specs.Suiting.{has_cycle, lines_meet}
use Rattle.fr_slots.specs.declared.channel.Channel.TheVariants.{A, B}
use Rattle.fr_slots.specs.Windows.{Opportunity, static_window}

abbrev mute : RunCycles → FaultPlace → FaultLine
mute cycles place = record { fault = Mute 0 A; cycles = cycles; place = place }

-- a window of minislot 2, in which both channels open slot 5
abbrev second_minislot : Opportunity
second_minislot = record { number = 4; cycle = 0; minislot = 2; a = Some 5; b = Some 5 }

-- cycle 64 of a run isn't its cycle 0
pub mute_comes_in_its_cycle : strikes (mute (Only 64) EverySlot) 64 (static_window 9 0 3) ≡ true
mute_comes_in_its_cycle = refl

pub mute_comes_in_no_other_cycle : strikes (mute (Only 64) EverySlot) 0 (static_window 9 0 3) ≡ false
mute_comes_in_no_other_cycle = refl

pub mute_of_a_slot_spares_the_minislots : strikes (mute Every (Slot 5)) 0 second_minislot ≡ false
mute_of_a_slot_spares_the_minislots = refl

pub mute_of_a_minislot_comes_there : strikes (mute Every (Minislot 2)) 7 second_minislot ≡ true
mute_of_a_minislot_comes_there = refl

pub every_slot_names_the_third : lines_meet (mute (Only 2) (Slot 3)) (mute Every EverySlot) ≡ true
every_slot_names_the_third = refl

pub two_cycles_never_meet : lines_meet (mute (Only 2) EverySlot) (mute (Only 3) EverySlot) ≡ false
two_cycles_never_meet = refl

-- one channel may have two faults of two kinds
pub two_kinds_never_meet :
    lines_meet (mute Every EverySlot) (record { fault = Corrupt A 0; cycles = Every; place = EverySlot }) ≡ false
two_kinds_never_meet = refl

-- ---- spans of cycles

-- cycles 3, 6 and 9
abbrev thirds : RunCycles
thirds = Span 3 11 3

pub span_begins_with_its_first_cycle : strikes (mute thirds EverySlot) 3 (static_window 9 3 1) ≡ true
span_begins_with_its_first_cycle = refl

-- the steps are counted from cycle 3 on, so from cycle 4 on it would be 4, 7 and 10
pub span_counts_from_its_first_cycle : strikes (mute (Span 4 11 3) EverySlot) 6 (static_window 9 6 1) ≡ false
span_counts_from_its_first_cycle = refl

pub span_names_its_last_cycle : strikes (mute (Span 3 9 3) EverySlot) 9 (static_window 9 9 1) ≡ true
span_names_its_last_cycle = refl

pub span_ends_with_its_last_cycle : strikes (mute thirds EverySlot) 12 (static_window 9 12 1) ≡ false
span_ends_with_its_last_cycle = refl

pub span_may_end_after_the_run : has_cycle 4 thirds ≡ true
span_may_end_after_the_run = refl

pub span_begins_in_the_run : has_cycle 3 thirds ≡ false
span_begins_in_the_run = refl

pub spans_meet_in_their_last_cycle : lines_meet (mute thirds EverySlot) (mute (Span 9 40 5) EverySlot) ≡ true
spans_meet_in_their_last_cycle = refl

-- even and odd cycles
pub spans_in_turn_never_meet : lines_meet (mute (Span 0 9 2) EverySlot) (mute (Span 1 9 2) EverySlot) ≡ false
spans_in_turn_never_meet = refl

-- ---- more places

pub mute_of_slots_comes_in_the_last : strikes (mute Every (Slots 2 5)) 0 (static_window 9 0 5) ≡ true
mute_of_slots_comes_in_the_last = refl

pub mute_of_slots_spares_the_next : strikes (mute Every (Slots 2 5)) 0 (static_window 9 0 6) ≡ false
mute_of_slots_spares_the_next = refl

pub mute_of_slots_spares_the_minislots : strikes (mute Every (Slots 2 5)) 0 second_minislot ≡ false
mute_of_slots_spares_the_minislots = refl

pub mute_of_all_minislots_spares_the_slots : strikes (mute Every EveryMinislot) 0 (static_window 9 0 5) ≡ false
mute_of_all_minislots_spares_the_slots = refl

-- a window of minislot 3, in which channel A opens slot 6, and channel B slot 8
abbrev apart_minislot : Opportunity
apart_minislot = record { number = 5; cycle = 0; minislot = 3; a = Some 6; b = Some 8 }

pub dynamic_slot_on_its_channel : strikes (mute Every (Dynamic 6)) 0 apart_minislot ≡ true
dynamic_slot_on_its_channel = refl

pub dynamic_slot_of_the_other_channel : strikes (mute Every (Dynamic 8)) 0 apart_minislot ≡ false
dynamic_slot_of_the_other_channel = refl

pub dynamic_slot_on_channel_b :
    strikes (record { fault = Mute 0 B; cycles = Every; place = Dynamic 8 }) 0 apart_minislot ≡ true
dynamic_slot_on_channel_b = refl

pub slots_meet_in_a_common_one : lines_meet (mute Every (Slots 2 5)) (mute Every (Slots 5 9)) ≡ true
slots_meet_in_a_common_one = refl

pub slots_meet_no_minislot : lines_meet (mute Every (Slots 2 5)) (mute Every EveryMinislot) ≡ false
slots_meet_no_minislot = refl

pub every_window_names_a_dynamic_slot : lines_meet (mute Every EveryWindow) (mute Every (Dynamic 6)) ≡ true
every_window_names_a_dynamic_slot = refl

-- a dynamic slot may open at any minislot
pub dynamic_slot_meets_a_minislot : lines_meet (mute Every (Dynamic 6)) (mute Every (Minislot 2)) ≡ true
dynamic_slot_meets_a_minislot = refl

pub dynamic_slots_never_meet : lines_meet (mute Every (Dynamic 6)) (mute Every (Dynamic 7)) ≡ false
dynamic_slots_never_meet = refl
