-- The text of a cluster's latencies (project-defined).
use Rattle.std.specs.Prelude.{ℕ, ◌*◌, List, [], ◌∷◌, ◌++◌, codes, if◌then◌else◌}
use Rattle.std.specs.Fmt.{decimal}
use Rattle.fr_files.specs.NodeTexts.{of_nodes}
use Rattle.fr_lines.specs.Parts.{channels_word, optional_number}
use Rattle.fr_lines.specs.Spelling.{line_text}
use Rattle.fr_text.specs.Spaces.{line_of}
use Rattle.fr_slots.specs.declared.channel.Channel.{Channel}
use Rattle.fr_slots.specs.declared.channel.Channel.TheVariants.{A, B}
use Rattle.fr_slots.specs.declared.plan.Buffer.{Buffer}
use Rattle.fr_slots.specs.Admission.{letter_of}
use Rattle.fr_slots.specs.Faults.{transmits}
use Rattle.fr_slots.specs.Numbers.{cycle_count}
use Rattle.fr_slots.specs.Plans.{Plan}
use Rattle.fr_schedule.specs.Descriptions.{Description}
use Rattle.fr_latency.specs.declared.latency.Latency.{Latency}
use Rattle.fr_latency.specs.declared.latency.State.{State}
use Rattle.fr_latency.specs.declared.latency.State.TheVariants.{Guaranteed, Possible, Blocked, Idle}
use Rattle.fr_latency.specs.declared.load.Load.{Load}
use Rattle.fr_latency.specs.Latencies.{latency_of}
use Rattle.fr_latency.specs.Loads.{load_of}

-- ---- a transmit buffer

abbrev pub state_word : State → List ℕ
state_word Guaranteed = codes "guaranteed"
state_word Possible = codes "possible"
state_word Blocked = codes "blocked"
state_word Idle = codes "idle"

-- its node and number, its slot, and its cycles
abbrev pub place_text : ℕ → ℕ → Buffer → List ℕ
place_text node number b =
    line_of
    (decimal node ∷ decimal number ∷ decimal b.filter.slot ∷ channels_word b.filter.channels
    ∷ decimal b.filter.cycles.base ∷ decimal b.filter.cycles.repetition ∷ [])

-- its first, last and latest minislot, each after a space
abbrev pub minislots_text : Latency → List ℕ
minislots_text l = 32 ∷ optional_number l.first ++ 32 ∷ optional_number l.last ++ 32 ∷ optional_number l.latest

-- after a space, its kind, the guaranteed cycles and the worst latency
abbrev pub worst_text : Latency → List ℕ
worst_text l = 32 ∷ line_text (state_word l.state ∷ decimal l.cycles ∷ optional_number l.worst ∷ [])

abbrev pub latency_line : ℕ → ℕ → Buffer → Latency → List ℕ
latency_line node number b l = place_text node number b ++ minislots_text l ++ worst_text l

abbrev pub buffer_text : Description → ℕ → Plan → ℕ → Buffer → List ℕ
buffer_text d node plan number b =
    if transmits b then latency_line node number b (latency_of d plan b) else []

-- the lines of a node, in the order of its buffers
abbrev pub node_text : Description → ℕ → Plan → List ℕ
node_text d node plan = of_nodes (buffer_text d node plan) 0 plan.buffers

-- ---- a channel

abbrev pub load_line : Channel → ℕ → Load → List ℕ
load_line channel slots l =
    line_of (codes "channel" ∷ letter_of channel ∷ decimal l.owned ∷ decimal (cycle_count * slots) ∷ [])
    ++ 32 ∷ line_text (decimal l.least ∷ decimal l.most ∷ decimal l.slack ∷ [])

abbrev pub channel_text : Description → Channel → List ℕ
channel_text d channel = load_line channel d.params.static_slots (load_of d channel)

-- ---- the cluster

abbrev pub latency_text : Description → List ℕ
latency_text d = of_nodes (node_text d) 0 d.plans ++ channel_text d A ++ channel_text d B
