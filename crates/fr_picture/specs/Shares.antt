-- The dynamic slots of a channel that have a sender in a cycle. In a picture their boxes share the room of the dynamic
-- segment in equal parts from left to right, and their lines share a strip from top to bottom. So the place of a slot
-- isn't its time (project-defined).
use Rattle.std.specs.Prelude.{◌≡◌, ◌⊎◌, ℕ, zero, suc, ◌+◌, ◌-◌, ◌*◌, ◌/◌, ◌<◌, ◌≤◌, max, min, Bool, true, false}
use Rattle.std.specs.Prelude.{◌&&◌, not, List, [], ◌++◌, count_by}
use Rattle.std.specs.List.{list_any, range_with_len}
use Rattle.fr_picture.specs.Places.{across, extent, row_of}
use Rattle.fr_schedule.specs.Descriptions.{Description}
use Rattle.fr_schedule.specs.SenderTable.{IsSender, may_send}
use Rattle.fr_slots.specs.declared.channel.Channel.{Channel}
use Rattle.fr_slots.specs.Numbers.{last_slot}
use Rattle.fr_slots.specs.Parameters.{Parameters, is_static_slot}
use Rattle.fr_timing.specs.Segments.{dynamic_start, symbol_start}

-- ---- the slots

-- the slot is a dynamic one with this sender in the cycle
pub record HasSender (d : Description) (cycle : ℕ) (channel : Channel) (slot node : ℕ) : Type 0 where
  pub dynamic : is_static_slot d.params slot ≡ false
  pub sender : IsSender d cycle slot channel node

-- the slot is static, or has no sender in the cycle
abbrev pub HasNoSender : Description → ℕ → Channel → ℕ → Type 0
HasNoSender d cycle channel slot =
    (is_static_slot d.params slot ≡ true) ⊎ ((node : ℕ) → IsSender d cycle slot channel node → ⊥)

-- the slot is a dynamic one with a sender in the cycle
abbrev pub has_sender : Description → ℕ → Channel → ℕ → Bool
has_sender d cycle channel slot =
    not (is_static_slot d.params slot) && list_any (may_send d.params cycle slot channel) d.plans

-- the number of these slots up to this one
unfoldable pub senders_up_to : Description → ℕ → Channel → ℕ → ℕ
senders_up_to d cycle channel slot = count_by (has_sender d cycle channel) (range_with_len 1 slot)

-- the number of all these slots
abbrev pub sender_count : Description → ℕ → Channel → ℕ
sender_count d cycle channel = senders_up_to d cycle channel last_slot

-- a slot comes after this number of these slots, of which there are so many
pub record IsPlace (d : Description) (cycle : ℕ) (channel : Channel) (slot before count : ℕ) : Type 0 where
  pub before_is : before ≡ senders_up_to d cycle channel (slot - 1)
  pub next_is : before + 1 ≡ senders_up_to d cycle channel slot
  pub count_is : count ≡ sender_count d cycle channel
  pub among : before < count
  pub few : count ≤ last_slot

-- the texts of this number of slots, one after another from the first slot on
unfoldable pub AreTexts : (ℕ → List ℕ → Type 0) → ℕ → List ℕ → Type 0
AreTexts IsText zero text = text ≡ []
AreTexts IsText (suc slot) text =
    (before : List ℕ) × (last : List ℕ) × AreTexts IsText slot before × IsText (suc slot) last
    × (text ≡ before ++ last)

-- ---- the boxes

-- the room of the segment: it begins at the segment's first macrotick, and ends where the symbol window begins
abbrev pub room_left : Parameters → ℕ
room_left p = across p (dynamic_start p)

abbrev pub room_length : Parameters → ℕ
room_length p = extent p (dynamic_start p) (symbol_start p)

-- The room is cut into this number of equal shares, from left to right: the distance from the left at which the first
-- of them end.
unfoldable pub end_of_shares : Parameters → ℕ → ℕ → ℕ
end_of_shares p count shares = room_left p + shares * room_length p / count

-- each dynamic slot with a sender has a share, in the order of the slots: that of this slot, or of the last one before
-- it, ends here
abbrev pub share_end : Description → ℕ → Channel → ℕ → ℕ
share_end d cycle channel slot =
    end_of_shares d.params (sender_count d cycle channel) (senders_up_to d cycle channel slot)

-- the box of a slot begins with its share, where the one before it ends
abbrev pub box_left : Description → ℕ → Channel → ℕ → ℕ
box_left d cycle channel slot = share_end d cycle channel (slot - 1)

-- it ends with the share, and is 1 long at least, so that it can be seen
abbrev pub box_length : Description → ℕ → Channel → ℕ → ℕ
box_length d cycle channel slot = max (share_end d cycle channel slot - share_end d cycle channel (slot - 1)) 1

-- ---- the lines

-- The lowest 70 of the 420 that the row of a channel is high are cut into equal shares in the same way, from top to
-- bottom. The line of a slot begins at the top of its share.
unfoldable pub line_top : Description → ℕ → Channel → ℕ → ℕ
line_top d cycle channel slot =
    row_of channel + 350 + senders_up_to d cycle channel (slot - 1) * 70 / sender_count d cycle channel

-- a line is as high as its share, but 4 at least, so that it can be seen, and 14 at most
unfoldable pub line_height : Description → ℕ → Channel → ℕ
line_height d cycle channel = min (max (70 / sender_count d cycle channel) 4) 14
