-- The ranges of a picture: a line for each dynamic slot that has a sender in the cycle and can open there in a run
-- without faults. It names the minislots at which the slot can open, and lies where these minislots lie.
use Rattle.std.specs.Prelude.{◌≡◌, ◌⊎◌, ℕ, ◌+◌, ◌-◌, ◌*◌, ◌≤◌, List, [], ◌++◌, codes}
use Rattle.std.specs.Fmt.{decimal}
use Rattle.fr_latency.specs.Openings.{last_opening, slots_before}
use Rattle.fr_picture.specs.Places.{across, extent}
use Rattle.fr_picture.specs.Shares.{AreTexts, HasSender, HasNoSender, line_height, line_top}
use Rattle.fr_schedule.specs.Descriptions.{Description}
use Rattle.fr_slots.specs.Admission.{letter_of}
use Rattle.fr_slots.specs.declared.channel.Channel.{Channel}
use Rattle.fr_slots.specs.declared.channel.Channel.TheVariants.{A, B}
use Rattle.fr_slots.specs.Parameters.{Parameters}
use Rattle.fr_svg.specs.Elements.{group_end, rect_text}
use Rattle.fr_timing.specs.Segments.{dynamic_start}

-- ---- a line

-- the macrotick at which a minislot begins, counted from 1
abbrev pub minislot_start : Parameters → ℕ → ℕ
minislot_start p minislot = dynamic_start p + (minislot - 1) * p.minislot_mt

unfoldable pub range_front : ℕ → Channel → ℕ → ℕ → ℕ → List ℕ
range_front slot channel node first last =
    codes "<g class='range n" ++ (decimal node ++ (codes "'><title>dynamic slot " ++ (decimal slot ++ (codes " on "
    ++ (letter_of channel ++ (codes " opens at minislots " ++ (decimal first ++ (codes " to " ++ (decimal last
    ++ codes "</title>")))))))))

-- it begins where the first of the minislots begins, and ends where the last one ends
unfoldable pub range_text : Parameters → Channel → ℕ → ℕ → ℕ → ℕ → ℕ → ℕ → List ℕ
range_text p channel slot node first last top height =
    range_front slot channel node first last
    ++ rect_text (across p (minislot_start p first)) top
    (extent p (minislot_start p first) (minislot_start p (last + 1))) height
    ++ group_end

-- ---- the slots

-- the last minislot at which the slot can open in the cycle, or 0 if it never opens
abbrev pub latest_of : Description → ℕ → Channel → ℕ → ℕ
latest_of d cycle channel slot = last_opening d channel cycle (slots_before d.params slot)

-- the line of a slot with this sender; at the earliest each slot before it takes one minislot
pub record IsLineText (d : Description) (cycle : ℕ) (channel : Channel) (slot node : ℕ) (text : List ℕ) : Type 0 where
  pub opens : 1 ≤ latest_of d cycle channel slot
  pub text_is : text
      ≡ range_text d.params channel slot node (slots_before d.params slot + 1) (latest_of d cycle channel slot)
      (line_top d cycle channel slot) (line_height d cycle channel)

-- there is nothing to open: the slot is static, or has no sender in the cycle, or never opens there
abbrev pub NeverOpens : Description → ℕ → Channel → ℕ → Type 0
NeverOpens d cycle channel slot = HasNoSender d cycle channel slot ⊎ (latest_of d cycle channel slot ≡ 0)

-- the line of the slot, which is a dynamic one with this sender in the cycle, or nothing
abbrev pub IsRangeText : Description → ℕ → Channel → ℕ → List ℕ → Type 0
IsRangeText d cycle channel slot text =
    ((node : ℕ) × HasSender d cycle channel slot node × IsLineText d cycle channel slot node text)
    ⊎ (NeverOpens d cycle channel slot × (text ≡ []))

-- the lines of this number of slots, from the first on
abbrev pub AreRangeTexts : Description → ℕ → Channel → ℕ → List ℕ → Type 0
AreRangeTexts d cycle channel slots text = AreTexts (IsRangeText d cycle channel) slots text

-- the lines of both channels, A before B
abbrev pub AreRanges : Description → ℕ → List ℕ → Type 0
AreRanges d cycle text =
    (on_a : List ℕ) × (on_b : List ℕ) × AreRangeTexts d cycle A 2047 on_a × AreRangeTexts d cycle B 2047 on_b
    × (text ≡ on_a ++ on_b)
