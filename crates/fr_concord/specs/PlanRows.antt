-- The lines of `plan` for static slots, against the sender table (project-defined).
use Rattle.std.specs.Prelude.{◌≡◌, ℕ, ◌≤◌, ◌<◌, ◌⊎◌, true, List, [], ◌∷◌}
use Rattle.std.specs.List.{flat_map}
use Rattle.fr_commands.specs.PlanText.{slot_line, static_text}
use Rattle.fr_schedule.specs.Descriptions.{Description}
use Rattle.fr_schedule.specs.SenderTable.{IsSender}
use Rattle.fr_slots.specs.Admission.{CycleClass, cycle_admitted}
use Rattle.fr_slots.specs.declared.channel.Channel.{Channel}

-- a node that sends in a static slot on a channel, in the cycles of a class
pub record PlanRow : Type 0 where
  pub slot : ℕ
  pub channel : Channel
  pub node : ℕ
  pub cycles : CycleClass

-- its line
abbrev pub row_line : PlanRow → List ℕ
row_line row = slot_line row.slot row.channel row.node row.cycles

abbrev pub IsAmong : {A : Type 0} → A → List A → Type 0
IsAmong x [] = ⊥
IsAmong x (y ∷ ys) = (x ≡ y) ⊎ IsAmong x ys

-- the sender of a static slot, and the row that tells of it
pub record IsTold (rows : List PlanRow) (cycle slot : ℕ) (channel : Channel) (node : ℕ) : Type 0 where
  pub row : PlanRow
  pub among : IsAmong row rows
  pub slot_is : row.slot ≡ slot
  pub channel_is : row.channel ≡ channel
  pub node_is : row.node ≡ node
  pub admits : cycle_admitted row.cycles cycle ≡ true

-- The lines of static slots are those of these rows. They name exactly the senders that the sender table has for static
-- slots, cycle by cycle.
pub record ArePlanRows (d : Description) (rows : List PlanRow) : Type 0 where
  pub text_is : static_text d ≡ flat_map row_line rows
  pub are_static : (row : PlanRow) → IsAmong row rows → (1 ≤ row.slot) × (row.slot ≤ d.params.static_slots)
  pub are_senders : (row : PlanRow) (cycle : ℕ) → IsAmong row rows → cycle_admitted row.cycles cycle ≡ true
      → IsSender d cycle row.slot row.channel row.node
  pub are_all : (cycle slot : ℕ) (channel : Channel) (node : ℕ) → cycle < 64 → 1 ≤ slot → slot ≤ d.params.static_slots
      → IsSender d cycle slot channel node → IsTold rows cycle slot channel node

abbrev pub ArePlansTables : Type 0
ArePlansTables = (d : Description) → (rows : List PlanRow) × ArePlanRows d rows
