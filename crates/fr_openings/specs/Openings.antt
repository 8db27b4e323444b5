-- The transmit buffers of the dynamic segment in a run, window by window: those that are due in a cycle, the minislots
-- at which their slots open, and those whose slots don't open (chapters 5 and 9; the lines are project-defined).
use Rattle.std.specs.Prelude.{ℕ, ◌==◌, nat_lt, not, Bool, false, ◌&&◌, List, [], ◌∷◌, ◌++◌, codes, Option, Some, None}
use Rattle.std.specs.Prelude.{if◌then◌else◌}
use Rattle.std.specs.Fmt.{decimal}
use Rattle.fr_files.specs.NodeTexts.{of_nodes}
use Rattle.fr_openings.specs.declared.openings.BufferPlace.{BufferPlace}
use Rattle.fr_openings.specs.declared.openings.LastSlots.{LastSlots}
use Rattle.fr_schedule.specs.Descriptions.{Description}
use Rattle.fr_slots.specs.declared.channel.Channel.{Channel}
use Rattle.fr_slots.specs.declared.channel.Channel.TheVariants.{A, B}
use Rattle.fr_slots.specs.declared.plan.Buffer.{Buffer}
use Rattle.fr_slots.specs.Admission.{cycle_admitted, includes, letter_of}
use Rattle.fr_slots.specs.Faults.{latest_on, transmits_dynamic}
use Rattle.fr_slots.specs.Parameters.{Parameters}
use Rattle.fr_slots.specs.Plans.{Plan, admits_window}
use Rattle.fr_slots.specs.Windows.{Opportunity, is_static, opens_cycle, slot_of}
use Rattle.fr_text.specs.Spaces.{line_of}

-- ---- a buffer on a channel

-- a transmit buffer of the dynamic segment for the channel, whose cycle counter filter admits the cycle count
abbrev pub is_due : Parameters → ℕ → Channel → Buffer → Bool
is_due p count channel b =
    transmits_dynamic p b && (includes b.filter.channels channel && cycle_admitted b.filter.cycles count)

-- such a buffer, whose slot the channel opens in the window
abbrev pub is_open : Parameters → Opportunity → Channel → Buffer → Bool
is_open p w channel b = transmits_dynamic p b && admits_window b.filter w channel

-- A node begins no transmission in the dynamic segment after pLatestTx.
abbrev pub opening_word : ℕ → ℕ → List ℕ
opening_word latest minislot = if nat_lt latest minislot then codes "late" else codes "open"

-- ---- lines

-- the cycle of the run, the node, the buffer, its slot, the channel, and the node's pLatestTx there
unfoldable pub place_text : BufferPlace → Buffer → Channel → ℕ → List ℕ
place_text place b channel latest =
    line_of (decimal place.cycle ∷ decimal place.node ∷ decimal place.number ∷ decimal b.filter.slot
    ∷ letter_of channel ∷ decimal latest ∷ [])

abbrev pub due_line : BufferPlace → Buffer → Channel → ℕ → List ℕ
due_line place b channel latest = codes "due " ++ place_text place b channel latest ++ 10 ∷ []

-- and the minislot at which the slot opens
abbrev pub opening_line : BufferPlace → Buffer → Channel → ℕ → ℕ → List ℕ
opening_line place b channel latest minislot =
    opening_word latest minislot ++ 32 ∷ [] ++ place_text place b channel latest ++ 32 ∷ decimal minislot ++ 10 ∷ []

-- the segment ends before the channel opens the slot
abbrev pub closed_line : BufferPlace → Buffer → Channel → ℕ → List ℕ
closed_line place b channel latest = codes "closed " ++ place_text place b channel latest ++ 10 ∷ []

-- ---- what a window has of a buffer

-- without minislots no slot of the dynamic segment opens
abbrev pub unopened_text : Parameters → BufferPlace → Plan → Buffer → Channel → List ℕ
unopened_text p place plan b channel =
    if p.minislots == 0 then closed_line place b channel (latest_on plan channel) else []

abbrev pub due_text : Parameters → Opportunity → BufferPlace → Plan → Buffer → Channel → List ℕ
due_text p w place plan b channel =
    if is_due p w.cycle channel b
    then due_line place b channel (latest_on plan channel) ++ unopened_text p place plan b channel else []

-- the slot is above this one, which the channel opens
abbrev pub is_above : Option ℕ → ℕ → Bool
is_above None slot = false
is_above (Some opened) slot = nat_lt opened slot

-- The buffer is due, and the slot that the channel opens in the window is below its own, and is the last one.
abbrev pub is_closed : Parameters → Opportunity → Bool → Channel → Buffer → Bool
is_closed p w ends channel b =
    ends && (is_due p w.cycle channel b && is_above (slot_of w channel) b.filter.slot)

abbrev pub closed_text : Parameters → Opportunity → Bool → BufferPlace → Plan → Buffer → Channel → List ℕ
closed_text p w ends place plan b channel =
    if is_closed p w ends channel b then closed_line place b channel (latest_on plan channel) else []

abbrev pub opening_text : Parameters → Opportunity → Bool → BufferPlace → Plan → Buffer → Channel → List ℕ
opening_text p w ends place plan b channel =
    if is_open p w channel b then opening_line place b channel (latest_on plan channel) w.minislot
    else closed_text p w ends place plan b channel

-- The first window of a cycle has the buffers that are due in it. Each later one has those whose slots open, and if no
-- slot follows on the channel, those whose slots don't.
abbrev pub channel_text : Parameters → Opportunity → Bool → BufferPlace → Plan → Buffer → Channel → List ℕ
channel_text p w ends place plan b channel =
    if opens_cycle w then due_text p w place plan b channel else opening_text p w ends place plan b channel

-- channel A before B
abbrev pub both_text : Parameters → Opportunity → LastSlots → BufferPlace → Plan → Buffer → List ℕ
both_text p w last place plan b = channel_text p w last.a place plan b A ++ channel_text p w last.b place plan b B

abbrev pub place_of : ℕ → ℕ → ℕ → BufferPlace
place_of cycle node number = record { cycle = cycle; node = node; number = number }

-- the same of the buffer of this number of a node, in this cycle of the run
abbrev pub buffer_text : Parameters → ℕ → Opportunity → LastSlots → Plan → ℕ → ℕ → Buffer → List ℕ
buffer_text p cycle w last plan node number b = both_text p w last (place_of cycle node number) plan b

-- ---- what a window has of all buffers

-- the buffers of a node in the order of their numbers
abbrev pub node_text : Parameters → ℕ → Opportunity → LastSlots → ℕ → Plan → List ℕ
node_text p cycle w last node plan = of_nodes (buffer_text p cycle w last plan node) 0 plan.buffers

-- the window of a static slot that isn't the first of its cycle
abbrev pub is_silent : Opportunity → Bool
is_silent w = is_static w && not (opens_cycle w)

-- The nodes in their order. The window lies in the cycle of this number of the run.
abbrev pub openings_text : Description → ℕ → Opportunity → LastSlots → List ℕ
openings_text d cycle w last = if is_silent w then [] else of_nodes (node_text d.params cycle w last) 0 d.plans
