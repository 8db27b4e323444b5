-- The rows of a cluster, and answers for each cycle, as the code keeps them.
use Rattle.std.specs.Prelude.{◌≡◌, ℕ, ◌<◌, Bool, true, false, List, slice_index, slice_index_or}
use Rattle.fr_slots.specs.declared.channel.Channel.TheVariants.{A, B}
use Rattle.fr_slots.specs.declared.plan.Buffer.{Buffer}
use Rattle.fr_slots.specs.Faults.{transmits}
use Rattle.fr_slots.specs.Numbers.{IsSlot, cycle_count}
use Rattle.fr_slots.specs.Parameters.{is_static_slot}
use Rattle.fr_schedule.specs.Descriptions.{Description}
use Rattle.fr_latency.specs.declared.openings.Openings.{Openings}
use Rattle.fr_latency.specs.declared.openings.Row.{Row}
use Rattle.fr_latency.specs.Latencies.{before_slot, channel_of}
use Rattle.fr_latency.specs.Openings.{is_used}
use Rattle.fr_latency.specs.Rows.{AreRows, IsRow}

-- an answer, and a number, for each cycle
abbrev pub AreAnswers : (ℕ → Bool) → List Bool → Type 0
AreAnswers test answers = (cycle : ℕ) → cycle < cycle_count → slice_index_or answers cycle false ≡ test cycle

abbrev pub AreNumbers : (ℕ → ℕ) → List ℕ → Type 0
AreNumbers value numbers = (cycle : ℕ) → cycle < cycle_count → slice_index numbers cycle ≡ value cycle

pub record AreOpenings (d : Description) (o : Openings) : Type 0 where
  pub on_a : AreRows d A o.a.items
  pub on_b : AreRows d B o.b.items

-- the row is that of a dynamic buffer's slot
abbrev pub HasRow : Description → Buffer → Row → Type 0
HasRow d b row = is_static_slot d.params b.filter.slot ≡ false → IsRow d (channel_of b.filter.channels)
    (before_slot d b) row

-- this is a buffer of a node: if it transmits, its slot is used on its channel
pub record IsUsedFor (d : Description) (b : Buffer) : Type 0 where
  pub slot_is : IsSlot b.filter.slot
  pub used : transmits b ≡ true → is_used d.plans b.filter.slot (channel_of b.filter.channels) ≡ true
