-- The macroticks at which static slots and minislots begin, in pictures, captures and latencies, against the layout of
-- the cycle (project-defined).
use Rattle.std.specs.Prelude.{◌≡◌, ℕ, ◌+◌, ◌-◌, ◌*◌, ◌≤◌, ◌<◌, true, false, Contains, Some}
use Rattle.fr_capture.specs.Moments.{start_of as start_in_capture}
use Rattle.fr_core.specs.Worlds.{WorldState}
use Rattle.fr_guarantees.specs.Delays.{run_cycle, start_of as start_in_run}
use Rattle.fr_picture.specs.Owners.{start_of as start_in_picture, end_of as end_in_picture}
use Rattle.fr_slots.specs.Parameters.{Parameters}
use Rattle.fr_slots.specs.Windows.{Opportunity, is_static}
use Rattle.fr_timing.specs.Layout.{Part, Interval, layout, static_slot, minislot}
use Rattle.fr_timing.specs.Segments.{dynamic_start}

-- ---- in the cycle

abbrev pub interval_of : Part → ℕ → ℕ → Interval
interval_of part start end = record { part = part; start = start; end = end }

-- a static slot of the picture of a cycle
abbrev pub pictured : Parameters → ℕ → Interval
pictured p slot = interval_of (static_slot slot) (start_in_picture p slot) (end_in_picture p slot)

-- it is the slot's interval of the layout
abbrev pub ArePicturedSlots : Type 0
ArePicturedSlots = (p : Parameters) (slot : ℕ) → 1 ≤ slot → slot ≤ p.static_slots
    → Contains (layout p) (pictured p slot)

-- the window is that of a static slot, or begins at a minislot, and such a part of the cycle has a length
pub record IsSlotWindow (p : Parameters) (w : Opportunity) (slot : ℕ) : Type 0 where
  pub static_is : is_static w ≡ true
  pub slot_is : w.a ≡ Some slot
  pub from_one : 1 ≤ slot
  pub at_most : slot ≤ p.static_slots
  pub some_length : 0 < p.static_mt

pub record IsMinislotWindow (p : Parameters) (w : Opportunity) : Type 0 where
  pub dynamic_is : is_static w ≡ false
  pub from_one : 1 ≤ w.minislot
  pub at_most : w.minislot ≤ p.minislots
  pub some_length : 0 < p.minislot_mt

-- a capture counts the time of a window from the start of its interval in the layout
pub record IsPlacedAt (p : Parameters) (macrotick : ℕ) (interval : Interval) : Type 0 where
  pub of_layout : Contains (layout p) interval
  pub start_is : interval.start ≡ macrotick

abbrev pub AreCapturedSlots : Type 0
AreCapturedSlots = (p : Parameters) (w : Opportunity) (slot : ℕ) → IsSlotWindow p w slot
    → IsPlacedAt p (start_in_capture p w) (pictured p slot)

-- the start of a minislot, and its interval
abbrev pub minislot_start : Parameters → ℕ → ℕ
minislot_start p number = dynamic_start p + (number - 1) * p.minislot_mt

abbrev pub minislot_of : Parameters → ℕ → Interval
minislot_of p number = interval_of (minislot number) (minislot_start p number)
    (minislot_start p number + p.minislot_mt)

abbrev pub AreCapturedMinislots : Type 0
AreCapturedMinislots = (p : Parameters) (w : Opportunity) → IsMinislotWindow p w
    → IsPlacedAt p (start_in_capture p w) (minislot_of p w.minislot)

-- ---- in the run

-- a latency is counted between macroticks of the run: those of the cycles before, and that of the capture
abbrev pub AreStartsOfRun : Type 0
AreStartsOfRun = (world : WorldState) (w : Opportunity) (slot : ℕ)
    → IsSlotWindow world.bus.cluster.params w slot
    → start_in_run world w slot ≡ run_cycle world w * world.bus.cluster.params.cycle_mt
    + start_in_capture world.bus.cluster.params w

abbrev pub AreMinislotsOfRun : Type 0
AreMinislotsOfRun = (world : WorldState) (w : Opportunity) (slot : ℕ)
    → IsMinislotWindow world.bus.cluster.params w
    → start_in_run world w slot ≡ run_cycle world w * world.bus.cluster.params.cycle_mt
    + start_in_capture world.bus.cluster.params w
