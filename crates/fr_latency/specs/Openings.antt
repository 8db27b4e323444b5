-- The minislots at which a dynamic slot can begin, and those at which it can open, in a run without faults (chapters 5
-- and 9; lengths and the last slot are project-defined).
use Rattle.std.specs.Prelude.{ℕ, suc, zero, ◌+◌, ◌-◌, ◌==◌, nat_le, Bool, ◌&&◌, ◌||◌, List, if◌then◌else◌}
use Rattle.std.specs.List.{list_any}
use Rattle.fr_slots.specs.declared.channel.Channel.{Channel}
use Rattle.fr_slots.specs.declared.plan.Buffer.{Buffer}
use Rattle.fr_slots.specs.Admission.{includes}
use Rattle.fr_slots.specs.Faults.{latest_on, minislots_filled, sends_at, transmits, words_of}
use Rattle.fr_slots.specs.Parameters.{Parameters}
use Rattle.fr_slots.specs.Plans.{Plan}
use Rattle.fr_schedule.specs.Descriptions.{Description}
use Rattle.fr_minislot.specs.DynamicRows.{is_row}

-- the minislots that a frame of the buffer takes, with those that stay idle after it
abbrev pub frame_length : Parameters → Buffer → ℕ
frame_length p b = minislots_filled p (words_of p b) + p.idle

-- this is a transmit buffer for the slot on the channel
abbrev pub is_for : ℕ → Channel → Buffer → Bool
is_for slot channel b = transmits b && (b.filter.slot == slot && includes b.filter.channels channel)

-- ---- from one slot to the next

-- A frame of the buffer ends right before this minislot. It began where its slot can begin, up to the latest minislot
-- of its node. Minislots are numbered from 1, and nothing begins at 0.
abbrev pub follows_frame : Parameters → Channel → (ℕ → Bool) → ℕ → Plan → Buffer → Bool
follows_frame p channel can_begin minislot plan b =
    nat_le (minislot - frame_length p b) (latest_on plan channel) && can_begin (minislot - frame_length p b)

-- the same for one of the node's transmit buffers that admit the slot; a node without tasks sends nothing
abbrev pub follows_buffer : Parameters → ℕ → Channel → ℕ → (ℕ → Bool) → ℕ → Plan → Buffer → Bool
follows_buffer p slot channel cycle can_begin minislot plan b =
    sends_at slot channel cycle b && follows_frame p channel can_begin minislot plan b

abbrev pub follows_node : Parameters → ℕ → Channel → ℕ → (ℕ → Bool) → ℕ → Plan → Bool
follows_node p slot channel cycle can_begin minislot plan =
    nat_le 1 plan.tasks && list_any (follows_buffer p slot channel cycle can_begin minislot plan) plan.buffers

-- the next slot begins at this minislot, after a slot in which nothing is sent, or a frame
abbrev pub follows : Parameters → List Plan → ℕ → Channel → ℕ → (ℕ → Bool) → ℕ → Bool
follows p plans slot channel cycle can_begin minislot =
    can_begin (minislot - 1) || list_any (follows_node p slot channel cycle can_begin minislot) plans

-- ---- all slots

-- the slot that comes after so many dynamic slots
abbrev pub slot_after : Parameters → ℕ → ℕ
slot_after p earlier = p.static_slots + 1 + earlier

-- The slot after so many dynamic slots can begin at the minislot. After the dynamic segment slots are counted on as if
-- it were longer: a slot doesn't open there, and nothing is sent in it.
unfoldable pub can_begin : Description → Channel → ℕ → ℕ → ℕ → Bool
can_begin d channel cycle zero minislot = minislot == 1
can_begin d channel cycle (suc earlier) minislot =
    follows d.params d.plans (slot_after d.params earlier) channel cycle (can_begin d channel cycle earlier) minislot

-- the number of dynamic slots before a slot
abbrev pub slots_before : Parameters → ℕ → ℕ
slots_before p slot = slot - (p.static_slots + 1)

-- the dynamic slot can open at the minislot
abbrev pub opens : Description → Channel → ℕ → ℕ → ℕ → Bool
opens d channel cycle slot minislot =
    is_row d.params slot minislot && can_begin d channel cycle (slots_before d.params slot) minislot

-- ---- the greatest minislot

-- the greatest number up to this one that passes the test, or 0
unfoldable pub greatest : (ℕ → Bool) → ℕ → ℕ
greatest test zero = 0
greatest test (suc n) = if test (suc n) then suc n else greatest test n

-- No slot begins later. A frame begins in the segment and takes fewer than 300 minislots.
abbrev pub horizon : Parameters → ℕ → ℕ
horizon p earlier = earlier + (p.minislots + 300)

-- the last minislot at which the slot after so many dynamic slots can begin, also after the segment
abbrev pub last_begin : Description → Channel → ℕ → ℕ → ℕ
last_begin d channel cycle earlier = greatest (can_begin d channel cycle earlier) (horizon d.params earlier)

-- the last minislot at which it can open, or 0 if it never opens
abbrev pub last_opening : Description → Channel → ℕ → ℕ → ℕ
last_opening d channel cycle earlier = greatest (can_begin d channel cycle earlier) d.params.minislots

-- a node has a transmit buffer for the slot on the channel
abbrev pub is_used : List Plan → ℕ → Channel → Bool
is_used plans slot channel = list_any (λ plan. list_any (is_for slot channel) plan.buffers) plans
