-- The dynamic segments of a picture: an element for each dynamic slot with a sender in the cycle, which names the
-- sender by the sender table. The boxes share the room of the segment.
use Rattle.std.specs.Prelude.{◌≡◌, ◌⊎◌, ℕ, ◌+◌, ◌/◌, ◌==◌, ◌<◌, ◌≤◌, nat_lt, Bool, List, []}
use Rattle.std.specs.Prelude.{◌++◌, codes, Option, Some, None, slice_get, if◌then◌else◌}
use Rattle.std.specs.Fmt.{decimal}
use Rattle.std.specs.List.{find}
use Rattle.fr_picture.specs.Places.{row_of}
use Rattle.fr_picture.specs.Shares.{AreTexts, HasSender, HasNoSender, box_left, box_length, room_left, room_length}
use Rattle.fr_schedule.specs.Descriptions.{Description}
use Rattle.fr_slots.specs.Admission.{CycleClass, letter_of}
use Rattle.fr_slots.specs.declared.channel.Channel.{Channel}
use Rattle.fr_slots.specs.declared.plan.Buffer.{Buffer}
use Rattle.fr_slots.specs.Faults.{latest_on, sends_at}
use Rattle.fr_slots.specs.Plans.{Plan}
use Rattle.fr_svg.specs.Elements.{group_end, placed_text, rect_text}
use Rattle.fr_timing.specs.Segments.{dynamic_start, symbol_start}

-- ---- an element

-- the node begins no transmission in the dynamic segment of the channel
abbrev pub never_sends : Plan → Channel → Bool
never_sends plan channel = latest_on plan channel == 0

abbrev pub never_class : Bool → List ℕ
never_class never = if never then codes " never" else []

abbrev pub never_words : Bool → List ℕ
never_words never = if never then codes ", never sent: the node's latest minislot is 0" else []

unfoldable pub sender_front : ℕ → Channel → ℕ → List ℕ → List ℕ
sender_front slot channel node class =
    codes "<g class='sender n" ++ (decimal node ++ (class ++ (codes "'><title>dynamic slot " ++ (decimal slot
    ++ (codes " on " ++ (letter_of channel ++ (codes ": node " ++ decimal node)))))))

-- the payload length in two-byte words
unfoldable pub size_text : Option ℕ → List ℕ
size_text None = []
size_text (Some words) = codes ", " ++ (decimal words ++ codes " words")

unfoldable pub class_text : ℕ → ℕ → List ℕ
class_text base repetition = codes ", base " ++ (decimal base ++ (codes ", repetition " ++ decimal repetition))

abbrev pub cycles_text : CycleClass → List ℕ
cycles_text c = class_text c.base c.repetition

-- the buffer from which the node sends
unfoldable pub buffer_text : Buffer → List ℕ
buffer_text b = size_text b.words ++ cycles_text b.filter.cycles

abbrev pub first_text : Option Buffer → List ℕ
first_text None = []
first_text (Some b) = buffer_text b

unfoldable pub sender_title : Plan → ℕ → Channel → ℕ → ℕ → List ℕ
sender_title plan cycle channel slot node =
    sender_front slot channel node (never_class (never_sends plan channel))
    ++ first_text (find (sends_at slot channel cycle) plan.buffers) ++ never_words (never_sends plan channel)
    ++ codes "</title>"

-- the numbers of the slot and of its node, or that of the node alone, if they have room
unfoldable pub sender_numbers : ℕ → ℕ → ℕ → ℕ → ℕ → List ℕ
sender_numbers slot node left length top =
    if nat_lt length 150 then []
    else if nat_lt length 300 then placed_text (left + length / 2) (top + 260) (decimal node)
    else placed_text (left + length / 2) (top + 195) (decimal slot)
    ++ placed_text (left + length / 2) (top + 315) (decimal node)

unfoldable pub sender_text : Plan → ℕ → Channel → ℕ → ℕ → ℕ → ℕ → List ℕ
sender_text plan cycle channel slot node left length =
    sender_title plan cycle channel slot node ++ rect_text left (row_of channel + 70) length 280
    ++ sender_numbers slot node left length (row_of channel) ++ group_end

-- ---- the slots

-- the element of a dynamic slot with this sender, whose box has its share of the room
pub record IsSentText (d : Description) (cycle : ℕ) (channel : Channel) (slot node : ℕ) (text : List ℕ) : Type 0 where
  pub plan : Plan
  pub at : slice_get d.plans node ≡ Some plan
  pub text_is : text
      ≡ sender_text plan cycle channel slot node (box_left d cycle channel slot) (box_length d cycle channel slot)

-- the slot is a dynamic one with this sender in the cycle, or it has no element
abbrev pub IsSlotText : Description → ℕ → Channel → ℕ → List ℕ → Type 0
IsSlotText d cycle channel slot text =
    ((node : ℕ) × HasSender d cycle channel slot node × IsSentText d cycle channel slot node text)
    ⊎ (HasNoSender d cycle channel slot × (text ≡ []))

-- the elements of this number of slots, from the first on
abbrev pub AreSlotTexts : Description → ℕ → Channel → ℕ → List ℕ → Type 0
AreSlotTexts d cycle channel slots text = AreTexts (IsSlotText d cycle channel) slots text

-- ---- the segment

unfoldable pub dynamic_front : Channel → List ℕ
dynamic_front channel =
    codes "<g class='dynamic'><title>dynamic segment on " ++ (letter_of channel ++ codes "</title>")

-- the box of the segment
unfoldable pub dynamic_box : ℕ → ℕ → Channel → List ℕ
dynamic_box left length channel = dynamic_front channel ++ rect_text left (row_of channel) length 420 ++ group_end

-- the box, and the elements of all slots
abbrev pub IsRoomText : Description → ℕ → Channel → List ℕ → Type 0
IsRoomText d cycle channel text =
    (slots : List ℕ) × AreSlotTexts d cycle channel 2047 slots
    × (text ≡ dynamic_box (room_left d.params) (room_length d.params) channel ++ slots)

-- nothing for a cluster without a dynamic segment
abbrev pub IsDynamicText : Description → ℕ → Channel → List ℕ → Type 0
IsDynamicText d cycle channel text =
    ((symbol_start d.params ≤ dynamic_start d.params) × (text ≡ []))
    ⊎ ((dynamic_start d.params < symbol_start d.params) × IsRoomText d cycle channel text)
