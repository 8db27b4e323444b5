-- The text of a cluster's plan: the senders of slots by cycle, and the open intervals of each channel for each node and
-- cycle (project-defined).
use Rattle.std.specs.Prelude.{◌≡◌, ℕ, ◌+◌, suc, zero, ◌==◌, Bool, ◌&&◌, List, [], ◌∷◌, ◌++◌, length, codes, Option}
use Rattle.std.specs.Prelude.{if◌then◌else◌}
use Rattle.std.specs.Fmt.{decimal}
use Rattle.std.specs.Io.KnownBytes.{Appends}
use Rattle.std.specs.List.{flat_map, range_with_len}
use Rattle.fr_files.specs.NodeTexts.{of_nodes}
use Rattle.fr_guardian.specs.Guarding.{IsOpenMacrotick}
use Rattle.fr_guardian.specs.Intervals.{Span, AreMaximalIntervals}
use Rattle.fr_guardian.specs.Periods.{period}
use Rattle.fr_lines.specs.Parts.{channels_word}
use Rattle.fr_lines.specs.Spelling.{line_text}
use Rattle.fr_schedule.specs.Descriptions.{Description}
use Rattle.fr_schedule.specs.FileFaults.{all_owned}
use Rattle.fr_slots.specs.declared.channel.Channel.{Channel}
use Rattle.fr_slots.specs.declared.channel.Channel.TheVariants.{A, B}
use Rattle.fr_slots.specs.declared.plan.Buffer.{Buffer}
use Rattle.fr_slots.specs.declared.plan.Own.{Own}
use Rattle.fr_slots.specs.Admission.{CycleClass, letter_of, includes}
use Rattle.fr_slots.specs.Faults.{transmits_dynamic}
use Rattle.fr_slots.specs.Numbers.{cycle_count}
use Rattle.fr_slots.specs.Parameters.{Parameters}
use Rattle.fr_slots.specs.Plans.{Plan}

-- ---- lines

abbrev pub slot_line : ℕ → Channel → ℕ → CycleClass → List ℕ
slot_line slot channel node c =
    line_text
    (codes "slot" ∷ decimal slot ∷ letter_of channel ∷ decimal node ∷ decimal c.base ∷ decimal c.repetition ∷ [])

abbrev pub dynamic_line : ℕ → Buffer → List ℕ
dynamic_line node b =
    line_text
    (codes "dynamic" ∷ decimal b.filter.slot ∷ channels_word b.filter.channels ∷ decimal node
    ∷ decimal b.filter.cycles.base ∷ decimal b.filter.cycles.repetition ∷ [])

abbrev pub guard_line : ℕ → Channel → ℕ → Span → List ℕ
guard_line node channel cycle span =
    line_text
    (codes "guard" ∷ decimal node ∷ letter_of channel ∷ decimal cycle ∷ decimal span.0 ∷ decimal span.1 ∷ [])

-- ---- the owners of the static slots

-- the ownership line is for the slot on the channel, with this cycle as its first
abbrev pub begins_at : ℕ → Channel → ℕ → Own → Bool
begins_at slot channel base own = own.slot == slot && includes own.channels channel && own.cycles.base == base

-- a line for such an ownership line of the node
abbrev pub own_text : ℕ → Channel → ℕ → ℕ → Own → List ℕ
own_text slot channel base node own =
    if begins_at slot channel base own then slot_line slot channel node own.cycles else []

abbrev pub owner_text : ℕ → Channel → ℕ → ℕ → Plan → List ℕ
owner_text slot channel base node plan = flat_map (own_text slot channel base node) plan.owned

abbrev pub base_text : List Plan → ℕ → Channel → ℕ → List ℕ
base_text plans slot channel base = of_nodes (owner_text slot channel base) 0 plans

-- in the order of their first cycles
unfoldable pub owners_text : List Plan → ℕ → Channel → List ℕ
owners_text plans slot channel = flat_map (base_text plans slot channel) (range_with_len 0 cycle_count)

-- channel A before B
abbrev pub slot_text : List Plan → ℕ → List ℕ
slot_text plans slot = owners_text plans slot A ++ owners_text plans slot B

-- the static slots in their order
abbrev pub static_text : Description → List ℕ
static_text d = flat_map (slot_text d.plans) (range_with_len 1 d.params.static_slots)

-- ---- the transmit buffers of the dynamic slots

-- a line for a dynamic transmit buffer
abbrev pub buffer_text : Parameters → ℕ → Buffer → List ℕ
buffer_text p node b = if transmits_dynamic p b then dynamic_line node b else []

-- the buffers of a node in order of their numbers
abbrev pub node_text : Parameters → ℕ → Plan → List ℕ
node_text p node plan = flat_map (buffer_text p node) plan.buffers

abbrev pub dynamic_text : Description → List ℕ
dynamic_text d = of_nodes (node_text d.params) 0 d.plans

-- ---- the open intervals

-- a line for each of the intervals in which the channel is open to the node in the cycle
pub record IsGuardText (d : Description) (node : ℕ) (channel : Channel) (cycle : ℕ) (text : List ℕ) : Type 0 where
  pub spans : List Span
  pub maximal : AreMaximalIntervals (IsOpenMacrotick d node cycle channel) spans
  pub text_is : text ≡ flat_map (guard_line node channel cycle) spans

-- the lines of this number of cycles, from the first on
abbrev pub AreCycleTexts : Description → ℕ → Channel → ℕ → List ℕ → Type 0
AreCycleTexts d node channel zero text = text ≡ []
AreCycleTexts d node channel (suc cycle) text =
    (before : List ℕ) × (last : List ℕ) × AreCycleTexts d node channel cycle before
    × IsGuardText d node channel cycle last × (text ≡ before ++ last)

-- the number of cycles in a plan: the greatest repetition of the ownership lines, or 1 if there are none
abbrev pub cycles_told : Description → ℕ
cycles_told d = period (all_owned d.plans)

-- the lines of this number of nodes, from the first on; in each node those of channel A before those of B
abbrev pub AreGuardTexts : Description → ℕ → List ℕ → Type 0
AreGuardTexts d zero text = text ≡ []
AreGuardTexts d (suc node) text =
    (before : List ℕ) × (a : List ℕ) × (b : List ℕ) × AreGuardTexts d node before
    × AreCycleTexts d node A (cycles_told d) a × AreCycleTexts d node B (cycles_told d) b × (text ≡ before ++ a ++ b)

-- ---- the plan

-- The owners of the static slots, then the dynamic transmit buffers, then the open intervals of all nodes in the cycles
-- of the plan.
pub record IsPlanText (d : Description) (text : List ℕ) : Type 0 where
  pub guards : List ℕ
  pub guards_are : AreGuardTexts d (length d.plans) guards
  pub text_is : text ≡ static_text d ++ dynamic_text d ++ guards

-- a text of this kind has been written
abbrev pub Adds : (List ℕ → Type 0) → Option (List ℕ) → Option (List ℕ) → Type 0
Adds IsText old new = (text : List ℕ) × IsText text × Appends old new text
