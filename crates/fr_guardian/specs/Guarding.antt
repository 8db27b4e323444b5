-- The transmissions that a bus guardian passes, and its open macroticks. Chapter 5; that only static slots are guarded,
-- and the choice of guarded channels, are project-defined.
use Rattle.std.specs.Prelude.{◌≡◌, ℕ, Bool, true, false, not, ◌&&◌, ◌||◌, List, Option, Some, None, slice_get}
use Rattle.fr_slots.specs.declared.channel.Channel.{Channel}
use Rattle.fr_slots.specs.declared.plan.Own.{Own}
use Rattle.fr_slots.specs.Faults.{is_owned}
use Rattle.fr_slots.specs.Parameters.{Parameters}
use Rattle.fr_slots.specs.Plans.{Plan}
use Rattle.fr_slots.specs.Windows.{Opportunity, slot_of, is_static}
use Rattle.fr_timing.specs.declared.place.Place.{Place}
use Rattle.fr_timing.specs.Layout.{Part, static_slot, minislot, symbol_window, idle_time, part_of, IsAt}
use Rattle.fr_schedule.specs.Descriptions.{Description, is_guarded}

-- ---- passing transmissions

-- In a static slot on a guarded channel the transmissions of its owner in the window's cycle pass. Everywhere else all
-- pass.
abbrev pub lets_pass : Description → Opportunity → Channel → Plan → ℕ → Bool
lets_pass d w channel plan slot =
    not (is_static w && is_guarded d.guard channel) || is_owned plan.owned slot channel w.cycle

-- nothing passes from a node that the cluster doesn't have, or on a channel without a slot
abbrev pub passes_in : Description → Opportunity → Channel → Option Plan → Option ℕ → Bool
passes_in d w channel None slot = false
passes_in d w channel (Some plan) None = false
passes_in d w channel (Some plan) (Some slot) = lets_pass d w channel plan slot

-- a transmission of the node in the window on the channel passes
abbrev pub passes : Description → ℕ → Opportunity → Channel → Bool
passes d node w channel = passes_in d w channel (slice_get d.plans node) (slot_of w channel)

-- in a static slot on a guarded channel no other node's transmissions pass
abbrev pub PassesAlone : Description → ℕ → Opportunity → Channel → Type 0
PassesAlone d node w channel =
    is_static w ≡ true → is_guarded d.guard channel ≡ true → (other : ℕ) → passes d other w channel ≡ true
    → other ≡ node

-- ---- the open macroticks of a cycle

-- The part is open to a node with these ownership lines in the cycle: the dynamic segment, and its own static slots. On
-- a channel without guardians all static slots are open.
abbrev pub is_open : Bool → List Own → ℕ → Channel → Part → Bool
is_open guarded owned cycle channel (static_slot slot) = not guarded || is_owned owned slot channel cycle
is_open guarded owned cycle channel (minislot number) = true
is_open guarded owned cycle channel symbol_window = false
is_open guarded owned cycle channel idle_time = false

-- the macrotick lies in an open part
pub record IsOpenTo (p : Parameters) (guarded : Bool) (owned : List Own) (cycle : ℕ) (channel : Channel)
    (macrotick : ℕ) : Type 0 where
  pub place : Place
  pub at : IsAt p macrotick place
  pub opens : is_open guarded owned cycle channel (part_of place) ≡ true

-- The macrotick of the cycle is open to the node on the channel. None is open to a node that the cluster doesn't have.
pub record IsOpenMacrotick (d : Description) (node cycle : ℕ) (channel : Channel) (macrotick : ℕ) : Type 0 where
  pub plan : Plan
  pub of_node : slice_get d.plans node ≡ Some plan
  pub open_to : IsOpenTo d.params (is_guarded d.guard channel) plan.owned cycle channel macrotick
