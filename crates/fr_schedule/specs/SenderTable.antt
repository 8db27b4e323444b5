-- The sender in a slot on a channel in a cycle. Chapters 5 and 9; the division of a static slot on a channel by cycles
-- is project-defined.
use Rattle.std.specs.Prelude.{◌≡◌, ℕ, ◌<◌, Bool, true, Some, slice_get, if◌then◌else◌}
use Rattle.std.specs.List.{list_any}
use Rattle.fr_schedule.specs.Descriptions.{Description}
use Rattle.fr_slots.specs.declared.channel.Channel.{Channel}
use Rattle.fr_slots.specs.Faults.{is_owned, sends_at}
use Rattle.fr_slots.specs.Parameters.{Parameters, is_static_slot}
use Rattle.fr_slots.specs.Plans.{Plan}

-- In a static slot the owner of the slot on the channel in the cycle sends. In a dynamic slot the node with a transmit
-- buffer that admits the slot on the channel in the cycle sends.
abbrev pub may_send : Parameters → ℕ → ℕ → Channel → Plan → Bool
may_send p cycle slot channel plan =
    if is_static_slot p slot then is_owned plan.owned slot channel cycle
    else list_any (sends_at slot channel cycle) plan.buffers

-- the node is a sender of the slot on the channel in the cycle
pub record IsSender (d : Description) (cycle : ℕ) (slot : ℕ) (channel : Channel) (node : ℕ) : Type 0 where
  pub plan : Plan
  pub at : slice_get d.plans node ≡ Some plan
  pub sends : may_send d.params cycle slot channel plan ≡ true

-- no slot on a channel has two senders in a cycle
abbrev pub HasOneSender : Description → Type 0
HasOneSender d = (cycle slot : ℕ) (channel : Channel) (m n : ℕ)
    → cycle < 64
    → IsSender d cycle slot channel m
    → IsSender d cycle slot channel n
    → m ≡ n
