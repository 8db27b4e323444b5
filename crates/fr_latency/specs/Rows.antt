-- The last minislots of slots, as the code keeps them: for each cycle.
use Rattle.std.specs.Prelude.{◌≡◌, ℕ, ◌+◌, ◌<◌, true, List, length, slice_get, slice_index, Some}
use Rattle.fr_slots.specs.declared.channel.Channel.{Channel}
use Rattle.fr_slots.specs.Numbers.{cycle_count, last_slot}
use Rattle.fr_schedule.specs.Descriptions.{Description}
use Rattle.fr_latency.specs.declared.openings.Row.{Row}
use Rattle.fr_latency.specs.Cells.{BeginsAbove, CycleTest}
use Rattle.fr_latency.specs.Openings.{greatest, is_used, last_begin, last_opening, slot_after}

-- the first minislot after so many dynamic slots passes the test in each cycle, and none before it
pub record BeginsRightAfter (earlier : ℕ) (test : CycleTest) : Type 0 where
  pub first : (cycle : ℕ) → test cycle (earlier + 1) ≡ true
  pub above : BeginsAbove earlier test

-- for each cycle the greatest minislot up to this one that passes the test
abbrev pub AreLast : CycleTest → ℕ → List ℕ → Type 0
AreLast test most lasts = (cycle : ℕ) → cycle < cycle_count → slice_index lasts cycle ≡ greatest (test cycle) most

-- the last minislots at which the slot after so many dynamic slots can begin, and at which it can open
pub record IsRow (d : Description) (channel : Channel) (earlier : ℕ) (row : Row) : Type 0 where
  pub begins : (cycle : ℕ) → cycle < cycle_count → slice_index row.begin cycle ≡ last_begin d channel cycle earlier
  pub openings : (cycle : ℕ) → cycle < cycle_count → slice_index row.opening cycle
      ≡ last_opening d channel cycle earlier

-- a row for each dynamic slot; only those of slots with a transmit buffer count
pub record AreRows (d : Description) (channel : Channel) (rows : List Row) : Type 0 where
  pub size : d.params.static_slots + length rows ≡ last_slot
  pub each : (earlier : ℕ) (row : Row) → slice_get rows earlier ≡ Some row
      → is_used d.plans (slot_after d.params earlier) channel ≡ true → IsRow d channel earlier row
