-- The links of a cluster, against its transmit buffers, and their receivers, against the receive buffers and FIFOs that
-- store frames (project-defined).
use Rattle.std.specs.Prelude.{◌≡◌, ◌<◌, ℕ, true, List, Some, slice_get, Contains}
use Rattle.fr_capture.specs.declared.takers.Taker.{Taker}
use Rattle.fr_capture.specs.Takers.{takers_of}
use Rattle.fr_links.specs.declared.links.Link.{Link}
use Rattle.fr_links.specs.declared.receivers.Receiver.{Receiver}
use Rattle.fr_links.specs.Links.{links}
use Rattle.fr_links.specs.Receivers.{receivers}
use Rattle.fr_schedule.specs.Clusters.{IsCluster}
use Rattle.fr_schedule.specs.Descriptions.{Description}
use Rattle.fr_slots.specs.Admission.{cycle_admitted}
use Rattle.fr_slots.specs.declared.channel.Channel.{Channel}
use Rattle.fr_slots.specs.declared.plan.Buffer.{Buffer}
use Rattle.fr_slots.specs.Faults.{sends_at}
use Rattle.fr_slots.specs.Numbers.{cycle_count}
use Rattle.fr_slots.specs.Parameters.{Parameters}
use Rattle.fr_slots.specs.Plans.{Plan}
use Rattle.fr_slots.specs.Windows.{Opportunity, slot_of}
use Rattle.fr_status.specs.Forms.{Seen}

-- ---- receivers

-- a frame of the link can be in the window: its channel has the link's slot there, in one of the link's cycles
pub record IsWindowOf (l : Link) (w : Opportunity) : Type 0 where
  pub slot_is : slot_of w l.channel ≡ Some l.slot
  pub cycle_fits : w.cycle < cycle_count
  pub admitted : cycle_admitted l.cycles w.cycle ≡ true

-- what stores a frame, as a receiver of this node
abbrev pub receiver_of : ℕ → Taker → Receiver
receiver_of node t = record { node = node; buffer = t.buffer }

-- Whatever another node observes in such a window on the link's channel, what stores it is among the link's receivers.
abbrev pub AreTakersLinked : Type 0
AreTakersLinked = (p : Parameters) (plans : List Plan) (l : Link) (buffer node : ℕ) (plan : Plan) (w : Opportunity)
    (on_a on_b : Seen) (t : Taker) → l.buffer ≡ Some buffer → IsWindowOf l w → slice_get plans node ≡ Some plan
    → (node ≡ l.node → ⊥) → Contains (takers_of p plan w on_a on_b l.channel (Some node)) t
    → Contains (receivers plans l) (receiver_of node t)

-- ---- senders

-- the buffer of this number of the node
pub record IsBufferOf (d : Description) (node number : ℕ) (b : Buffer) : Type 0 where
  pub plan : Plan
  pub of_node : slice_get d.plans node ≡ Some plan
  pub of_plan : slice_get plan.buffers number ≡ Some b

-- a link of this buffer in the slot on the channel, with this cycle
pub record IsLinkOf (node number slot : ℕ) (channel : Channel) (cycle : ℕ) (l : Link) : Type 0 where
  pub node_is : l.node ≡ node
  pub buffer_is : l.buffer ≡ Some number
  pub slot_is : l.slot ≡ slot
  pub channel_is : l.channel ≡ channel
  pub admitted : cycle_admitted l.cycles cycle ≡ true

-- A cluster has a link for each slot, channel and cycle in which a transmit buffer sends.
abbrev pub AreSendersLinked : Type 0
AreSendersLinked = (d : Description) (node number : ℕ) (b : Buffer) (slot : ℕ) (channel : Channel) (cycle : ℕ)
    → IsCluster d → IsBufferOf d node number b → cycle < cycle_count → sends_at slot channel cycle b ≡ true
    → (l : Link) × Contains (links d) l × IsLinkOf node number slot channel cycle l

-- ---- frames

-- Whatever another node observes on a channel of a window in which a transmit buffer sends, what stores it is among the
-- receivers of a link of this buffer.
abbrev pub AreFramesLinked : Type 0
AreFramesLinked = (d : Description) (node number : ℕ) (b : Buffer) (slot : ℕ) (channel : Channel) (w : Opportunity)
    (other : ℕ) (plan : Plan) (on_a on_b : Seen) (t : Taker) → IsCluster d → IsBufferOf d node number b
    → slot_of w channel ≡ Some slot → w.cycle < cycle_count → sends_at slot channel w.cycle b ≡ true
    → slice_get d.plans other ≡ Some plan → (other ≡ node → ⊥)
    → Contains (takers_of d.params plan w on_a on_b channel (Some other)) t
    → (l : Link) × Contains (links d) l × IsLinkOf node number slot channel w.cycle l
    × Contains (receivers d.plans l) (receiver_of other t)
