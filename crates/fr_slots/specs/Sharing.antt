-- Slots that two filters share.
use Rattle.std.specs.Prelude.{◌≡◌, ℕ, ◌+◌, ◌*◌, ◌<◌, ◌≤◌, nat_lt, Bool, true, false, ◌&&◌, List, map, Option, Some}
use Rattle.std.specs.Prelude.{None, if◌then◌else◌}
use Rattle.std.specs.List.{list_any, find, filter}
use Rattle.fr_slots.specs.declared.channel.Channel.{Channel}
use Rattle.fr_slots.specs.declared.channel.Channel.TheVariants.{A, B}
use Rattle.fr_slots.specs.declared.channel.Channels.{Channels}
use Rattle.fr_slots.specs.declared.filter.Filter.{Filter}
use Rattle.fr_slots.specs.declared.plan.Own.{Own}
use Rattle.fr_slots.specs.declared.plan.Buffer.{Buffer}
use Rattle.fr_slots.specs.declared.sharing.Occasion.{Occasion}
use Rattle.fr_slots.specs.Admission.{includes}
use Rattle.fr_slots.specs.Faults.{two_pass, channels, transmits}
use Rattle.fr_slots.specs.Numbers.{IsSlot, cycle_count}
use Rattle.fr_slots.specs.Plans.{filter_admits}

-- ---- the order of slots, then of channels, then of cycles

-- the place of a slot on a channel in a cycle: a slot has two channels, and a channel has all cycles
abbrev pub place_of : ℕ → Channel → ℕ → ℕ
place_of slot A cycle = slot * (2 * cycle_count) + cycle
place_of slot B cycle = slot * (2 * cycle_count) + cycle_count + cycle

abbrev pub is_before : Occasion → Occasion → Bool
is_before p q = nat_lt (place_of p.slot p.channel p.cycle) (place_of q.slot q.channel q.cycle)

-- the earlier one of two occasions, if there is one
abbrev pub earlier : Option Occasion → Option Occasion → Option Occasion
earlier None q = q
earlier (Some p) None = Some p
earlier (Some p) (Some q) = if is_before q p then Some q else Some p

-- the test passes there, and at none before it
pub record IsFirstAt (test : ℕ → Channel → ℕ → Bool) (o : Occasion) : Type 0 where
  pub in_slots : IsSlot o.slot
  pub in_cycles : o.cycle < cycle_count
  pub passes : test o.slot o.channel o.cycle ≡ true
  pub first : (slot : ℕ) (channel : Channel) (cycle : ℕ) → cycle < cycle_count → test slot channel cycle ≡ true
      → place_of o.slot o.channel o.cycle ≤ place_of slot channel cycle

-- the first slot on a channel in a cycle at which the test passes, or none if it passes nowhere
abbrev pub IsFirst : (ℕ → Channel → ℕ → Bool) → Option Occasion → Type 0
IsFirst test None = (slot : ℕ) (channel : Channel) (cycle : ℕ) → cycle < cycle_count → test slot channel cycle ≡ false
IsFirst test (Some o) = IsFirstAt test o

-- ---- filters

abbrev pub admits_at : ℕ → Channel → ℕ → Filter → Bool
admits_at slot channel cycle f = filter_admits f cycle slot channel

-- two of the filters admit the slot on the channel in the cycle
abbrev pub is_shared : List Filter → ℕ → Channel → ℕ → Bool
is_shared filters slot channel cycle = two_pass (admits_at slot channel cycle) filters

-- the filter and one of the others admit it
abbrev pub is_shared_with : Filter → List Filter → ℕ → Channel → ℕ → Bool
is_shared_with f filters slot channel cycle = list_any (admits_at slot channel cycle) filters
    && admits_at slot channel cycle f

-- both filters admit it
abbrev pub is_shared_by : Filter → Filter → ℕ → Channel → ℕ → Bool
is_shared_by f g slot channel cycle = admits_at slot channel cycle g && admits_at slot channel cycle f

abbrev pub both_include : Channels → Channels → Channel → Bool
both_include c d channel = includes c channel && includes d channel

abbrev pub common_channel : Channels → Channels → Option Channel
common_channel c d = find (both_include c d) channels

-- ---- the filters of a plan

abbrev pub own_filter : Own → Filter
own_filter own = record { slot = own.slot; channels = own.channels; cycles = own.cycles }

abbrev pub own_filters : List Own → List Filter
own_filters owned = map own_filter owned

abbrev pub buffer_filter : Buffer → Filter
buffer_filter b = b.filter

abbrev pub transmit_filters : List Buffer → List Filter
transmit_filters buffers = map buffer_filter (filter transmits buffers)
