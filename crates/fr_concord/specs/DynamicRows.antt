-- The lines of `plan` for dynamic slots, against the sender table (project-defined).
use Rattle.std.specs.Prelude.{◌≡◌, ℕ, true, false, List, [], ◌∷◌, codes}
use Rattle.std.specs.Fmt.{decimal}
use Rattle.std.specs.List.{flat_map}
use Rattle.fr_commands.specs.PlanText.{dynamic_text}
use Rattle.fr_concord.specs.PlanRows.{IsAmong}
use Rattle.fr_lines.specs.Parts.{channels_word}
use Rattle.fr_lines.specs.Spelling.{line_text}
use Rattle.fr_schedule.specs.Descriptions.{Description}
use Rattle.fr_schedule.specs.SenderTable.{IsSender}
use Rattle.fr_slots.specs.Admission.{CycleClass, cycle_admitted, includes}
use Rattle.fr_slots.specs.declared.channel.Channel.{Channel}
use Rattle.fr_slots.specs.declared.channel.Channels.{Channels}
use Rattle.fr_slots.specs.Parameters.{is_static_slot}

-- a node that sends in a dynamic slot on channels, in the cycles of a class
pub record DynamicRow : Type 0 where
  pub slot : ℕ
  pub channels : Channels
  pub node : ℕ
  pub cycles : CycleClass

-- its line
abbrev pub dynamic_row_line : DynamicRow → List ℕ
dynamic_row_line row =
    line_text
    (codes "dynamic" ∷ decimal row.slot ∷ channels_word row.channels ∷ decimal row.node ∷ decimal row.cycles.base
    ∷ decimal row.cycles.repetition ∷ [])

-- the row is for the slot on the channel in the cycle
pub record IsRowFor (row : DynamicRow) (cycle slot : ℕ) (channel : Channel) : Type 0 where
  pub slot_is : row.slot ≡ slot
  pub on_channel : includes row.channels channel ≡ true
  pub admits : cycle_admitted row.cycles cycle ≡ true

-- the sender of a dynamic slot, and the row that tells of it
pub record IsToldDynamic (rows : List DynamicRow) (cycle slot : ℕ) (channel : Channel) (node : ℕ) : Type 0 where
  pub row : DynamicRow
  pub among : IsAmong row rows
  pub is_for : IsRowFor row cycle slot channel
  pub node_is : row.node ≡ node

-- The lines of dynamic slots are those of these rows. They name exactly the senders that the sender table has for
-- dynamic slots, cycle by cycle.
pub record AreDynamicRows (d : Description) (rows : List DynamicRow) : Type 0 where
  pub text_is : dynamic_text d ≡ flat_map dynamic_row_line rows
  pub are_dynamic : (row : DynamicRow) → IsAmong row rows → is_static_slot d.params row.slot ≡ false
  pub are_senders : (row : DynamicRow) (cycle slot : ℕ) (channel : Channel) → IsAmong row rows
      → IsRowFor row cycle slot channel → IsSender d cycle slot channel row.node
  pub are_all : (cycle slot : ℕ) (channel : Channel) (node : ℕ) → is_static_slot d.params slot ≡ false
      → IsSender d cycle slot channel node → IsToldDynamic rows cycle slot channel node

abbrev pub AreDynamicTables : Type 0
AreDynamicTables = (d : Description) → (rows : List DynamicRow) × AreDynamicRows d rows
