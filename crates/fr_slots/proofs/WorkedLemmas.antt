-- Cycle filters of small numbers, frames that end too late, the ranges of parameters, and windows.
use Rattle.std.proofs.Common.{◌≡◌, ℕ, zero, suc, ◌+◌, ◌-◌, ◌%◌, Bool, true, false, ◌&&◌, List, [], ◌∷◌, map, refl}
use Rattle.std.specs.List.{list_any, list_all}
use Rattle.std.specs.Prelude.{Err, Option, Some, None, pos, negsuc}
use Rattle.fr_slots.specs.declared.channel.Channel.TheVariants as channel
use Rattle.fr_slots.specs.declared.filter.FilterError.TheVariants.{RepetitionNotPower, BaseTooLarge}
use Rattle.fr_slots.specs.Admission.{CycleClass, cycle_class, cycle_admitted}
use Rattle.fr_slots.specs.Faults.{first_of, numbers_from, first_common, ends_late}
use Rattle.fr_slots.specs.declared.params.Key.{Key}
use Rattle.fr_slots.specs.declared.params.Key.TheVariants.{StaticSlots, Minislots, StaticWords, StaticMt, MinislotMt}
use Rattle.fr_slots.specs.declared.params.Key.TheVariants.{SymbolMt, NitMt, CycleMt, Idle, WordsPerMinislot}
use Rattle.fr_slots.specs.Parameters.{Parameters, least_of, greatest_of, admits}
use Rattle.fr_slots.specs.Plans.{Plan, empty_plan}
use Rattle.fr_slots.specs.Windows.{Opportunity, static_window, window_fits}

-- the numbers below this one
abbrev below : ℕ → List ℕ
below zero = []
below (suc n) = n ∷ below n

abbrev cycles : ℕ → ℕ → CycleClass
cycles base repetition = record { base = base; repetition = repetition }

abbrev both_admit : CycleClass → CycleClass → ℕ → Bool
both_admit c d cycle = cycle_admitted c cycle && cycle_admitted d cycle

-- base 1 of every 2 and base 3 of every 4 have no common cycle before 3
pub filters_meet_first_in_cycle_three : (list_any (both_admit (cycles 1 2) (cycles 3 4)) (below 3) ≡ false) ×
    (both_admit (cycles 1 2) (cycles 3 4) 3 ≡ true)
filters_meet_first_in_cycle_three = (refl, refl)

-- even cycles, and base 3 of every 4
pub filters_never_meet : list_any (both_admit (cycles 0 2) (cycles 3 4)) (below 64) ≡ false
filters_never_meet = refl

-- so the least common cycle is 3, and there is none
pub first_common_cycles : (first_common (cycles 1 2) (cycles 3 4) ≡ Some 3) ×
    (first_common (cycles 0 2) (cycles 3 4) ≡ None)
unfolding first_of numbers_from
first_common_cycles = (refl, refl)

-- 3 is no repetition, and a base is below its repetition
pub filters_refused : (cycle_class 0 3 ≡ Err RepetitionNotPower) × (cycle_class 64 64 ≡ Err BaseTooLarge)
filters_refused = (refl, refl)

-- the cycle after 63 is 0, as for `Cycle::next`
pub cycles_wrap_after_sixty_three : ((63 + 1) % 64 ≡ 0) × ((62 + 1) % 64 ≡ 63)
cycles_wrap_after_sixty_three = (refl, refl)

-- a cycle of ten minislots of four words each, one of which stays idle after a transmission
abbrev small_cycle : Parameters
small_cycle = record {
  static_slots = 3;
  minislots = 10;
  static_words = 1;
  static_mt = 20;
  minislot_mt = 5;
  symbol_mt = 4;
  nit_mt = 6;
  cycle_mt = 120;
  idle = 1;
  words_per_minislot = 4;
}

abbrev plan_with_latest : ℕ → ℕ → Plan
plan_with_latest latest_a latest_b = empty_plan 1 latest_a latest_b 1 2

-- A frame of four words fills two minislots. From the ninth minislot it ends in time, and from the tenth too late. With
-- pLatestTx of 0 it never begins.
pub four_words_end_late : (ends_late small_cycle (plan_with_latest 10 0) 4 channel.A ≡ true)
    × (ends_late small_cycle (plan_with_latest 9 0) 4 channel.A ≡ false)
    × (ends_late small_cycle (plan_with_latest 10 0) 4 channel.B ≡ false)
four_words_end_late = (refl, refl, refl)

-- each channel has its own pLatestTx
pub each_channel_has_its_latest : (ends_late small_cycle (plan_with_latest 0 10) 4 channel.A ≡ false)
    × (ends_late small_cycle (plan_with_latest 0 10) 4 channel.B ≡ true)
    × (ends_late small_cycle (plan_with_latest 10 9) 4 channel.B ≡ false)
each_channel_has_its_latest = (refl, refl, refl)

-- ---- the ranges of the parameters, in the order of a cluster file

abbrev keys : List Key
keys = StaticSlots ∷ Minislots ∷ StaticWords ∷ StaticMt ∷ MinislotMt ∷ SymbolMt ∷ NitMt ∷ CycleMt ∷ Idle ∷
    WordsPerMinislot ∷ []

abbrev lowest : List ℕ
lowest = 2 ∷ 0 ∷ 0 ∷ 1 ∷ 1 ∷ 0 ∷ 1 ∷ 4 ∷ 0 ∷ 1 ∷ []

abbrev highest : List ℕ
highest = 1023 ∷ 8000 ∷ 127 ∷ 1000 ∷ 100 ∷ 1000 ∷ 1000 ∷ 20000 ∷ 2 ∷ 127 ∷ []

-- these bounds are admitted, and their neighbours aren't
pub twenty_bounds : (map least_of keys ≡ lowest) × (map greatest_of keys ≡ highest)
    × (list_all (λ key. admits key (pos (least_of key)) && admits key (pos (greatest_of key))) keys ≡ true)
    × (list_any (λ key. admits key (pos (greatest_of key + 1))) keys ≡ false)
    × (list_any (λ key. admits key (pos (least_of key - 1)))
    (StaticSlots ∷ StaticMt ∷ MinislotMt ∷ NitMt ∷ CycleMt ∷ WordsPerMinislot ∷ []) ≡ false)
    × (list_any (λ key. admits key (negsuc 0)) keys ≡ false)
twenty_bounds = (refl, refl, refl, refl, refl, refl)

-- ---- windows of the small cycle, which has static slots 1 to 3 and ten minislots

abbrev at_minislot : ℕ → ℕ → Option ℕ → Opportunity
at_minislot minislot a b = record { number = 0; cycle = 0; minislot = minislot; a = Some a; b = b }

-- the last static slot is static, and the next slot isn't
pub static_windows_end_at_the_last_slot : (window_fits small_cycle (static_window 0 0 3) ≡ true) ×
    (window_fits small_cycle (static_window 0 0 4) ≡ false)
static_windows_end_at_the_last_slot = (refl, refl)

-- minislots are numbered from 1, so the tenth is the last
pub dynamic_windows_end_at_the_last_minislot : (window_fits small_cycle (at_minislot 10 13 (Some 13)) ≡ true)
    × (window_fits small_cycle (at_minislot 11 14 (Some 14)) ≡ false)
dynamic_windows_end_at_the_last_minislot = (refl, refl)

-- a dynamic window has a static slot on neither channel
pub no_static_slot_in_a_dynamic_window : (window_fits small_cycle (at_minislot 1 4 None) ≡ true)
    × (window_fits small_cycle (at_minislot 1 3 (Some 4)) ≡ false)
    × (window_fits small_cycle (at_minislot 1 4 (Some 3)) ≡ false)
no_static_slot_in_a_dynamic_window = (refl, refl, refl)
