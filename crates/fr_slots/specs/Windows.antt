-- Windows: one transmission opportunity on both channels (project-defined).
use Rattle.std.specs.Prelude.{◌≡◌, ℕ, ◌≤◌, ◌<◌, ◌+◌, ◌-◌, ◌^◌, ◌==◌, nat_le, min, not, Bool, true, false, ◌&&◌, ◌||◌}
use Rattle.std.specs.Prelude.{Option, Some, None, is_some, if◌then◌else◌}
use Rattle.fr_slots.specs.declared.channel.Channel.{Channel}
use Rattle.fr_slots.specs.declared.channel.Channel.TheVariants.{A, B}
use Rattle.fr_slots.specs.Numbers.{IsSlot, last_minislot, cycle_count}
use Rattle.fr_slots.specs.Parameters.{Parameters, is_static_slot}

-- A window of a run: its number, its cycle, the minislot at which it opens, and the slot that each channel opens.
-- Minislots are counted from 1, and a static window has minislot 0.
pub record Opportunity : Type 0 where
  pub number : ℕ
  pub cycle : ℕ
  pub minislot : ℕ
  pub a : Option ℕ
  pub b : Option ℕ

abbrev pub IsSlotOrNone : Option ℕ → Type 0
IsSlotOrNone None = Unit {0}
IsSlotOrNone (Some slot) = IsSlot slot

-- a static window has one slot on both channels, and each window has a slot
pub record IsOpportunity (w : Opportunity) : Type 0 where
  pub minislot_fits : w.minislot ≤ last_minislot
  pub static_same : w.minislot ≡ 0 → w.a ≡ w.b
  pub some_slot : (is_some w.a || is_some w.b) ≡ true

-- the numbers of a window are in the ranges of their types
pub record IsInRange (w : Opportunity) : Type 0 where
  pub number_fits : w.number < 2 ^ 32
  pub cycle_fits : w.cycle < cycle_count
  pub slot_a : IsSlotOrNone w.a
  pub slot_b : IsSlotOrNone w.b
  pub window_is : IsOpportunity w

abbrev pub slot_of : Opportunity → Channel → Option ℕ
slot_of w A = w.a
slot_of w B = w.b

abbrev pub is_static : Opportunity → Bool
is_static w = w.minislot == 0

abbrev pub static_window : ℕ → ℕ → ℕ → Opportunity
static_window number cycle slot = record { number = number; cycle = cycle; minislot = 0; a = Some slot; b = Some slot }

abbrev pub dynamic_window : ℕ → ℕ → ℕ → Option ℕ → Option ℕ → Option Opportunity
dynamic_window number cycle minislot a b =
    if nat_le 1 minislot && nat_le minislot last_minislot && (is_some a || is_some b)
    then Some (record { number = number; cycle = cycle; minislot = minislot; a = a; b = b })
    else None

-- ---- cycles

abbrev pub is_first_slot : Option ℕ → Bool
is_first_slot None = false
is_first_slot (Some slot) = slot == 1

-- a cycle begins with static slot 1
abbrev pub opens_cycle : Opportunity → Bool
opens_cycle w = is_static w && is_first_slot w.a

-- the number of cycles of a run that have begun with the window, from the number before it
abbrev pub cycles_with : ℕ → Opportunity → ℕ
cycles_with begun w = begun + (if opens_cycle w then 1 else 0)

-- a count that stays at the greatest number of its type
abbrev pub most_cycles : ℕ → ℕ
most_cycles n = min n (2 ^ 32 - 1)

-- the cycle of the run, from 0, in which the window lies, from the number of cycles that began before it
abbrev pub run_cycle : ℕ → Opportunity → ℕ
run_cycle begun w = if opens_cycle w then begun else begun - 1

-- ---- the windows of a cluster

abbrev pub static_slot_fits : Parameters → Option ℕ → Bool
static_slot_fits params None = true
static_slot_fits params (Some slot) = is_static_slot params slot

abbrev pub dynamic_slot_fits : Parameters → Option ℕ → Bool
dynamic_slot_fits params None = true
dynamic_slot_fits params (Some slot) = not (is_static_slot params slot)

-- The window is one of the cluster's. Static slots and minislots are at most the last ones, and dynamic slots come
-- after the static ones.
abbrev pub window_fits : Parameters → Opportunity → Bool
window_fits params window =
    if is_static window then static_slot_fits params window.a && static_slot_fits params window.b
    else nat_le window.minislot params.minislots && dynamic_slot_fits params window.a
    && dynamic_slot_fits params window.b
