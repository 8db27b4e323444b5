-- Runs in which a dynamic buffer sends that can send in a cycle.
use Rattle.std.specs.Prelude.{◌≡◌, ℕ, ◌+◌, ◌*◌, ◌≤◌, ◌<◌, true, false, List, length, slice_get, Some, None}
use Rattle.fr_bus.specs.States.{collecting_of}
use Rattle.fr_core.specs.declared.event.Event.TheVariants.{Commit}
use Rattle.fr_core.specs.Steps.{step_refusal, step_done}
use Rattle.fr_core.specs.Worlds.{WorldState, interface_at, opening_world}
use Rattle.fr_guarantees.specs.Exactness.{HasRoom}
use Rattle.fr_guarantees.specs.Leading.{Leads}
use Rattle.fr_journal.specs.declared.entry.Offered.TheVariants.{Data}
use Rattle.fr_journal.specs.Offers.{offered}
use Rattle.fr_latency.specs.Latencies.{before_slot, channel_of, is_possible}
use Rattle.fr_schedule.specs.Descriptions.{Description}
use Rattle.fr_slots.specs.declared.channel.Channel.{Channel}
use Rattle.fr_slots.specs.declared.plan.Buffer.{Buffer}
use Rattle.fr_slots.specs.Faults.{transmits}
use Rattle.fr_slots.specs.Parameters.{is_static_slot}
use Rattle.fr_slots.specs.Plans.{Plan, buffer_at}
use Rattle.fr_slots.specs.Windows.{Opportunity, slot_of}

-- the interface of the node offers the commit of this number in the window
abbrev pub OffersIn : WorldState → ℕ → Opportunity → Channel → ℕ → Type 0
OffersIn w n window channel commit =
    offered (interface_at w n).plan (interface_at w n).entries window channel ≡ Data commit

-- Accepted events without faults lead to a window of the buffer's slot in the cycle. The commit of a host on the buffer
-- is accepted there, and the node offers it in the window.
pub record IsOffered (d : Description) (n number : ℕ) (b : Buffer) (channel : Channel) (cycle : ℕ) : Type 0 where
  pub world : WorldState
  pub leads : Leads (opening_world d (cycle + 1)) world
  pub window : Opportunity
  pub is_open : collecting_of world.bus ≡ Some window
  pub cycle_is : window.cycle ≡ cycle
  pub slot_is : slot_of window channel ≡ Some b.filter.slot
  pub payload : List ℕ
  pub accepted : step_refusal world (Commit n 0 number payload) ≡ None
  pub offers : OffersIn (step_done world (Commit n 0 number payload)) n window channel
      (length (interface_at world n).entries)

-- In each cycle in which a dynamic buffer of a node with tasks is possible some run offers its commit, if the journals
-- have room for it.
abbrev pub AreOffered : Description → Type 0
AreOffered d = (n number : ℕ) (plan : Plan) (b : Buffer) → slice_get d.plans n ≡ Some plan → 1 ≤ plan.tasks
    → buffer_at plan number ≡ Some b → transmits b ≡ true → is_static_slot d.params b.filter.slot ≡ false
    → (cycle : ℕ) → cycle < 64 → is_possible d plan b cycle ≡ true
    → HasRoom d (cycle + 1) (3 * before_slot d b + 1)
    → IsOffered d n number b (channel_of b.filter.channels) cycle
