-- The rows of a cluster are exact: each start is reached by a lane that a run without faults can have, and none is
-- later.
use Rattle.std.specs.Prelude.{◌≡◌, ℕ, ◌<◌, ◌≤◌, true, List, slice_get, slice_index, Some}
use Rattle.fr_slots.specs.declared.channel.Channel.{Channel}
use Rattle.fr_slots.specs.declared.channel.Channel.TheVariants.{A, B}
use Rattle.fr_slots.specs.Numbers.{cycle_count}
use Rattle.fr_schedule.specs.Descriptions.{Description}
use Rattle.fr_latency.specs.declared.openings.Openings.{Openings}
use Rattle.fr_latency.specs.declared.openings.Row.{Row}
use Rattle.fr_latency.specs.Bounds.{after_longest}
use Rattle.fr_latency.specs.Lanes.{AreLanes, IsLatest}
use Rattle.fr_latency.specs.Openings.{can_begin, is_used, slot_after}

-- the row has the latest start of its slot over all lanes, in each cycle
abbrev pub IsExactRow : Description → Channel → ℕ → Row → Type 0
IsExactRow d channel earlier row =
    (cycle : ℕ) → cycle < cycle_count → IsLatest d channel cycle earlier (slice_index row.begin cycle)

abbrev pub AreExactRows : Description → Channel → List Row → Type 0
AreExactRows d channel rows =
    (earlier : ℕ) (row : Row) → slice_get rows earlier ≡ Some row
    → is_used d.plans (slot_after d.params earlier) channel ≡ true → IsExactRow d channel earlier row

pub record AreExact (d : Description) (o : Openings) : Type 0 where
  pub on_a : AreExactRows d A o.a.items
  pub on_b : AreExactRows d B o.b.items

-- Slots begin and open exactly as on lanes, and none begins after the longest rows of the slots before it.
pub record IsTrueToLanes (d : Description) : Type 0 where
  pub lanes : AreLanes d
  pub bounded : (channel : Channel) (cycle earlier minislot : ℕ) → can_begin d channel cycle earlier minislot ≡ true
      → minislot ≤ after_longest d channel cycle earlier
