-- Each minislot at which `fr_latency` lets a dynamic slot open is one at which some run without faults opens it.
use Rattle.std.specs.Prelude.{◌≡◌, ℕ, ◌+◌, ◌*◌, ◌≤◌, ◌<◌, true, slice_get, Some}
use Rattle.fr_bus.specs.Courses.{opportunities}
use Rattle.fr_bus.specs.States.{collecting_of}
use Rattle.fr_core.specs.Worlds.{WorldState, opening_world}
use Rattle.fr_guarantees.specs.Leading.{Leads}
use Rattle.fr_latency.specs.Openings.{opens, slots_before}
use Rattle.fr_schedule.specs.Descriptions.{Description}
use Rattle.fr_slots.specs.declared.channel.Channel.{Channel}
use Rattle.fr_slots.specs.Plans.{Plan}
use Rattle.fr_slots.specs.Windows.{Opportunity, slot_of}

-- Each journal has room for all windows of so many cycles, and for so many calls of the host.
pub record HasRoom (d : Description) (cycles calls : ℕ) : Type 0 where
  pub for_windows : (n : ℕ) (plan : Plan) → slice_get d.plans n ≡ Some plan
      → 2 * (cycles * opportunities d.params) ≤ plan.slot_entries
  pub for_calls : (n : ℕ) (plan : Plan) → slice_get d.plans n ≡ Some plan → calls ≤ plan.host_entries

-- accepted events without faults lead to a window in which the slot opens on the channel, at the minislot in the cycle
pub record IsOpened (d : Description) (channel : Channel) (cycle slot minislot : ℕ) : Type 0 where
  pub world : WorldState
  pub leads : Leads (opening_world d (cycle + 1)) world
  pub window : Opportunity
  pub is_open : collecting_of world.bus ≡ Some window
  pub cycle_is : window.cycle ≡ cycle
  pub minislot_is : window.minislot ≡ minislot
  pub slot_is : slot_of window channel ≡ Some slot

-- Where the definition lets a dynamic slot open, a run opens it, if the journals have room for it. For each dynamic
-- slot before it a host calls three times at most: to commit, and after the window to empty the buffer again.
abbrev pub AreRealized : Description → Type 0
AreRealized d = (channel : Channel) (cycle slot minislot : ℕ) → cycle < 64 → d.params.static_slots < slot
    → HasRoom d (cycle + 1) (3 * slots_before d.params slot) → opens d channel cycle slot minislot ≡ true
    → IsOpened d channel cycle slot minislot
