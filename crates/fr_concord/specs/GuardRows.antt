-- The lines of `plan` for the bus guardians, against the open parts of the cycle and the transmissions that pass
-- (chapter 5; that only static slots are guarded is project-defined).
use Rattle.std.specs.Prelude.{◌≡◌, ℕ, ◌+◌, ◌-◌, ◌*◌, ◌%◌, ◌≤◌, ◌<◌, ◌↔◌, true, List, [], ◌∷◌, codes, length, Some}
use Rattle.std.specs.Fmt.{decimal}
use Rattle.std.specs.List.{flat_map}
use Rattle.fr_commands.specs.PlanText.{AreGuardTexts, cycles_told}
use Rattle.fr_concord.specs.PlanRows.{IsAmong}
use Rattle.fr_guardian.specs.Guarding.{IsOpenMacrotick, passes}
use Rattle.fr_lines.specs.Spelling.{line_text}
use Rattle.fr_schedule.specs.Clusters.{IsCluster}
use Rattle.fr_schedule.specs.Descriptions.{Description}
use Rattle.fr_slots.specs.Admission.{letter_of}
use Rattle.fr_slots.specs.declared.channel.Channel.{Channel}
use Rattle.fr_slots.specs.Windows.{Opportunity, slot_of, is_static}

-- macroticks of a cycle in which a channel is open to a node, from the first up to the one after the last
pub record GuardRow : Type 0 where
  pub node : ℕ
  pub channel : Channel
  pub cycle : ℕ
  pub start : ℕ
  pub end : ℕ

-- their line
abbrev pub guard_row_line : GuardRow → List ℕ
guard_row_line row =
    line_text
    (codes "guard" ∷ decimal row.node ∷ letter_of row.channel ∷ decimal row.cycle ∷ decimal row.start
    ∷ decimal row.end ∷ [])

-- the row of a node, a channel and a cycle that has the macrotick
pub record IsToldOpen (rows : List GuardRow) (node : ℕ) (channel : Channel) (cycle macrotick : ℕ) : Type 0 where
  pub row : GuardRow
  pub among : IsAmong row rows
  pub node_is : row.node ≡ node
  pub channel_is : row.channel ≡ channel
  pub cycle_is : row.cycle ≡ cycle
  pub from_start : row.start ≤ macrotick
  pub before_end : macrotick < row.end

-- a macrotick of a static slot that the window has on the channel
pub record IsInSlot (d : Description) (w : Opportunity) (channel : Channel) (slot macrotick : ℕ) : Type 0 where
  pub static_is : is_static w ≡ true
  pub slot_is : slot_of w channel ≡ Some slot
  pub from_one : 1 ≤ slot
  pub at_most : slot ≤ d.params.static_slots
  pub from_start : (slot - 1) * d.params.static_mt ≤ macrotick
  pub before_end : macrotick < (slot - 1) * d.params.static_mt + d.params.static_mt

-- The lines of guardians are those of these rows. Cycles repeat after those of the plan.
pub record AreGuardRows (d : Description) (text : List ℕ) (rows : List GuardRow) : Type 0 where
  pub text_is : text ≡ flat_map guard_row_line rows
  -- each row has open macroticks alone
  pub are_open : (row : GuardRow) (macrotick : ℕ) → IsAmong row rows → row.start ≤ macrotick → macrotick < row.end
      → IsOpenMacrotick d row.node row.cycle row.channel macrotick
  -- a macrotick is open to a node exactly if a row has it
  pub are_all : (node cycle macrotick : ℕ) (channel : Channel)
      → IsOpenMacrotick d node cycle channel macrotick
      ↔ IsToldOpen rows node channel (cycle % cycles_told d) macrotick
  -- a transmission of a node in a static slot passes exactly if a row has the slot's macroticks
  pub are_passing : (node slot macrotick : ℕ) (w : Opportunity) (channel : Channel)
      → IsInSlot d w channel slot macrotick
      → ((passes d node w channel ≡ true) ↔ IsToldOpen rows node channel (w.cycle % cycles_told d) macrotick)

abbrev pub ArePlansGuards : Type 0
ArePlansGuards = (d : Description) → IsCluster d → (text : List ℕ) → AreGuardTexts d (length d.plans) text
    → (rows : List GuardRow) × AreGuardRows d text rows
