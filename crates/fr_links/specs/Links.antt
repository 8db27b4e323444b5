-- The links of a cluster: who sends in each slot on each channel, and in which cycles (project-defined). The order is
-- that of the lines `slot` and `dynamic` of `fr_bench plan`.
use Rattle.std.specs.Prelude.{ℕ, ◌+◌, ◌==◌, Bool, ◌&&◌, List, [], ◌∷◌, ◌++◌, Option, Some, None, slice_get}
use Rattle.std.specs.Prelude.{if◌then◌else◌}
use Rattle.std.specs.List.{flat_map, range_with_len}
use Rattle.fr_slots.specs.declared.channel.Channel.{Channel}
use Rattle.fr_slots.specs.declared.channel.Channel.TheVariants.{A, B}
use Rattle.fr_slots.specs.declared.plan.Buffer.{Buffer}
use Rattle.fr_slots.specs.declared.plan.Own.{Own}
use Rattle.fr_slots.specs.Admission.{CycleClass, includes}
use Rattle.fr_slots.specs.Faults.{transmits, transmits_dynamic, words_of}
use Rattle.fr_slots.specs.Numbers.{cycle_count}
use Rattle.fr_slots.specs.Parameters.{Parameters}
use Rattle.fr_slots.specs.Plans.{Plan}
use Rattle.fr_schedule.specs.Descriptions.{Description}
use Rattle.fr_links.specs.declared.links.Link.{Link}
use Rattle.fr_links.specs.declared.links.Owner.{Owner}
use Rattle.fr_links.specs.Cycles.{shared}

-- what the function gives for each item and its number, in order; the first item has this number
unfoldable pub numbered : {X Y : Type 0} → (ℕ → X → List Y) → ℕ → List X → List Y
numbered f number [] = []
numbered f number (x ∷ xs) = f number x ++ numbered f (number + 1) xs

-- ---- static slots

-- the node and the cycles of each ownership line for the slot on the channel, in the order of nodes and lines
abbrev pub owner_if : ℕ → Channel → ℕ → Own → List Owner
owner_if slot channel node own =
    if own.slot == slot && includes own.channels channel
    then record { node = node; cycles = own.cycles } ∷ []
    else []

abbrev pub node_owners : ℕ → Channel → ℕ → Plan → List Owner
node_owners slot channel node plan = flat_map (owner_if slot channel node) plan.owned

abbrev pub owners : List Plan → ℕ → Channel → List Owner
owners plans slot channel = numbered (node_owners slot channel) 0 plans

-- the transmit buffer of the node sends on the channel in these cycles, in its slot
abbrev pub link_of : Parameters → Channel → ℕ → ℕ → Buffer → CycleClass → Link
link_of p channel node number b cycles =
    record {
      slot = b.filter.slot;
      channel = channel;
      node = node;
      buffer = Some number;
      cycles = cycles;
      words = words_of p b;
    }

abbrev pub link_if : Parameters → Channel → ℕ → ℕ → Buffer → Option CycleClass → List Link
link_if p channel node number b None = []
link_if p channel node number b (Some cycles) = link_of p channel node number b cycles ∷ []

-- a transmit buffer for the slot on the channel
abbrev pub fills : ℕ → Channel → Buffer → Bool
fills slot channel b = transmits b && (b.filter.slot == slot && includes b.filter.channels channel)

-- the buffer sends in the cycles that it and the ownership line have in common
abbrev pub filled_links : Parameters → ℕ → Channel → Owner → ℕ → Buffer → List Link
filled_links p slot channel o number b =
    if fills slot channel b
    then link_if p channel o.node number b (shared o.cycles b.filter.cycles)
    else []

-- the node sends null frames in the cycles of an ownership line that none of its buffers fills (chapter 5)
abbrev pub null_link : Parameters → ℕ → Channel → Owner → Link
null_link p slot channel o =
    record {
      slot = slot;
      channel = channel;
      node = o.node;
      buffer = None;
      cycles = o.cycles;
      words = p.static_words;
    }

abbrev pub or_null : Link → List Link → List Link
or_null null [] = null ∷ []
or_null null (link ∷ links) = link ∷ links

abbrev pub plan_links : Parameters → ℕ → Channel → Owner → List Buffer → List Link
plan_links p slot channel o buffers =
    or_null (null_link p slot channel o) (numbered (filled_links p slot channel o) 0 buffers)

abbrev pub owner_links : Parameters → ℕ → Channel → Owner → Option Plan → List Link
owner_links p slot channel o None = []
owner_links p slot channel o (Some plan) = plan_links p slot channel o plan.buffers

-- the links of the ownership line, if this is its first cycle
abbrev pub begun_links : Description → ℕ → Channel → ℕ → Owner → List Link
begun_links d slot channel base o =
    if o.cycles.base == base then owner_links d.params slot channel o (slice_get d.plans o.node) else []

abbrev pub base_links : Description → ℕ → Channel → ℕ → List Link
base_links d slot channel base = flat_map (begun_links d slot channel base) (owners d.plans slot channel)

-- in the order of their first cycles
abbrev pub channel_links : Description → ℕ → Channel → List Link
channel_links d slot channel = flat_map (base_links d slot channel) (range_with_len 0 cycle_count)

-- channel A before B
abbrev pub slot_links : Description → ℕ → List Link
slot_links d slot = channel_links d slot A ++ channel_links d slot B

-- the static slots in their order
abbrev pub static_links : Description → List Link
static_links d = flat_map (slot_links d) (range_with_len 1 d.params.static_slots)

-- ---- dynamic slots

-- a dynamic transmit buffer sends in its own cycles
abbrev pub dynamic_link : Parameters → ℕ → ℕ → Buffer → Channel → List Link
dynamic_link p node number b channel =
    if transmits_dynamic p b && includes b.filter.channels channel
    then link_of p channel node number b b.filter.cycles ∷ []
    else []

abbrev pub buffer_links : Parameters → ℕ → ℕ → Buffer → List Link
buffer_links p node number b = dynamic_link p node number b A ++ dynamic_link p node number b B

abbrev pub node_links : Parameters → ℕ → Plan → List Link
node_links p node plan = numbered (buffer_links p node) 0 plan.buffers

-- in the order of nodes and buffers
abbrev pub dynamic_links : Description → List Link
dynamic_links d = numbered (node_links d.params) 0 d.plans

-- ---- the cluster

unfoldable pub links : Description → List Link
links d = static_links d ++ dynamic_links d
