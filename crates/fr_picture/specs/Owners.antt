-- The static slots of a picture: an element for each slot and channel, which names the owner in the cycle by the sender
-- table.
use Rattle.std.specs.Prelude.{◌≡◌, ◌⊎◌, ℕ, zero, suc, ◌-◌, ◌*◌, ◌/◌, nat_lt, List, [], ◌++◌, codes, Option}
use Rattle.std.specs.Prelude.{if◌then◌else◌}
use Rattle.std.specs.Fmt.{decimal}
use Rattle.std.specs.Io.KnownBytes.{Appends}
use Rattle.fr_picture.specs.Places.{across, extent, row_of}
use Rattle.fr_schedule.specs.Descriptions.{Description}
use Rattle.fr_schedule.specs.SenderTable.{IsSender}
use Rattle.fr_slots.specs.Admission.{letter_of}
use Rattle.fr_slots.specs.declared.channel.Channel.{Channel}
use Rattle.fr_slots.specs.declared.channel.Channel.TheVariants.{A, B}
use Rattle.fr_slots.specs.Parameters.{Parameters}
use Rattle.fr_svg.specs.Elements.{group_end, moved_front, rect_text, text_end}

-- ---- the macroticks at which a static slot and the next one begin

abbrev pub start_of : Parameters → ℕ → ℕ
start_of p slot = (slot - 1) * p.static_mt

abbrev pub end_of : Parameters → ℕ → ℕ
end_of p slot = slot * p.static_mt

-- ---- elements

abbrev pub box_text : ℕ → ℕ → Channel → List ℕ
box_text left length channel = rect_text left (row_of channel) length 420

-- left out if it doesn't fit
unfoldable pub number_text : ℕ → ℕ → Channel → ℕ → List ℕ
number_text left length channel node =
    if nat_lt length 150 then []
    else moved_front left (row_of channel) (length / 2) 260 ++ decimal node ++ text_end

unfoldable pub owned_title : ℕ → Channel → ℕ → List ℕ
owned_title slot channel node =
    codes "<g class='owner n" ++ (decimal node ++ (codes "'><title>slot " ++ (decimal slot ++ (codes " on "
    ++ (letter_of channel ++ (codes ": node " ++ (decimal node ++ codes "</title>")))))))

unfoldable pub free_title : ℕ → Channel → List ℕ
free_title slot channel =
    codes "<g class='free'><title>slot " ++ (decimal slot ++
    (codes " on " ++ (letter_of channel ++ codes ": nobody</title>")))

abbrev pub boxed : Parameters → ℕ → Channel → List ℕ
boxed p slot channel = box_text (across p (start_of p slot)) (extent p (start_of p slot) (end_of p slot)) channel

abbrev pub numbered : Parameters → ℕ → Channel → ℕ → List ℕ
numbered p slot channel node = number_text (across p (start_of p slot))
    (extent p (start_of p slot) (end_of p slot)) channel node

-- a slot on a channel that the node owns in the cycle
abbrev pub owned_element : Parameters → ℕ → Channel → ℕ → List ℕ
owned_element p slot channel node =
    owned_title slot channel node ++ boxed p slot channel ++ numbered p slot channel node ++ group_end

-- a slot on a channel that has no owner in the cycle
abbrev pub free_element : Parameters → ℕ → Channel → List ℕ
free_element p slot channel = free_title slot channel ++ boxed p slot channel ++ group_end

-- ---- the static slots

-- a text of this kind has been written
abbrev pub Adds : (List ℕ → Type 0) → Option (List ℕ) → Option (List ℕ) → Type 0
Adds IsText old new = (text : List ℕ) × IsText text × Appends old new text

-- the element of a slot on a channel names its sender in the cycle, or says that it has none
abbrev pub IsOwnerText : Description → ℕ → ℕ → Channel → List ℕ → Type 0
IsOwnerText d cycle slot channel text =
    ((node : ℕ) × IsSender d cycle slot channel node × (text ≡ owned_element d.params slot channel node))
    ⊎ (((node : ℕ) → IsSender d cycle slot channel node → ⊥) × (text ≡ free_element d.params slot channel))

-- the elements of this number of slots, from the first on, in each slot on channel A before channel B
abbrev pub AreOwnerTexts : Description → ℕ → ℕ → List ℕ → Type 0
AreOwnerTexts d cycle zero text = text ≡ []
AreOwnerTexts d cycle (suc slot) text =
    (before : List ℕ) × (a : List ℕ) × (b : List ℕ) × AreOwnerTexts d cycle slot before
    × IsOwnerText d cycle (suc slot) A a × IsOwnerText d cycle (suc slot) B b × (text ≡ before ++ a ++ b)
