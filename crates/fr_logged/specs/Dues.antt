-- What a cluster allows in a slot on a channel in a cycle (chapters 4 and 5; the division of a static slot by cycles is
-- project-defined).
use Rattle.std.specs.Prelude.{ℕ, ◌+◌, ◌==◌, Bool, true, false, List, [], ◌∷◌, Option, Some, None, if◌then◌else◌}
use Rattle.std.specs.List.{find}
use Rattle.fr_schedule.specs.Descriptions.{Description}
use Rattle.fr_slots.specs.declared.channel.Channel.{Channel}
use Rattle.fr_slots.specs.declared.channel.Channels.{Channels}
use Rattle.fr_slots.specs.declared.channel.Channels.TheVariants as channels
use Rattle.fr_slots.specs.declared.plan.Buffer.{Buffer}
use Rattle.fr_slots.specs.declared.plan.Own.{Own}
use Rattle.fr_slots.specs.Faults.{claims, sends_at, words_of, latest_on}
use Rattle.fr_slots.specs.Parameters.{Parameters, is_static_slot}
use Rattle.fr_slots.specs.Plans.{Plan}
use Rattle.fr_logged.specs.declared.due.Due.{Due}

-- the ownership line of a node for the slot, and its transmit buffer
abbrev pub line_in : ℕ → Channel → ℕ → Plan → Option Own
line_in slot channel cycle plan = find (claims slot channel cycle) plan.owned

abbrev pub buffer_in : ℕ → Channel → ℕ → Plan → Option Buffer
buffer_in slot channel cycle plan = find (sends_at slot channel cycle) plan.buffers

-- a node without host tasks commits nothing
abbrev pub preamble_of : Plan → Option Buffer → Option Bool
preamble_of plan None = None
preamble_of plan (Some b) = if plan.tasks == 0 then None else Some b.preamble

abbrev pub is_both : Channels → Bool
is_both channels.A = false
is_both channels.B = false
is_both channels.Both = true

abbrev pub is_for_both : Option Buffer → Bool
is_for_both None = false
is_for_both (Some b) = is_both b.filter.channels

-- ---- static slots

abbrev pub static_due : Parameters → ℕ → Plan → Own → Option Buffer → Due
static_due p node plan own buffer = record {
  node = node;
  sync = own.sync;
  startup = own.startup;
  words = p.static_words;
  preamble = preamble_of plan buffer;
  both = is_for_both buffer;
  latest = 0;
}

abbrev pub owner_or : Parameters → ℕ → Plan → Option Own → Option Buffer → Option Due → Option Due
owner_or p node plan None buffer others = others
owner_or p node plan (Some own) buffer others = Some (static_due p node plan own buffer)

-- the first of the nodes, numbered from this number up, that owns the slot on the channel in the cycle
abbrev pub owner_from : Parameters → ℕ → Channel → ℕ → ℕ → List Plan → Option Due
owner_from p slot channel cycle node [] = None
owner_from p slot channel cycle node (plan ∷ plans) =
    owner_or p node plan (line_in slot channel cycle plan) (buffer_in slot channel cycle plan)
    (owner_from p slot channel cycle (node + 1) plans)

-- ---- dynamic slots

abbrev pub dynamic_due : Parameters → Channel → ℕ → Plan → Buffer → Option Due
dynamic_due p channel node plan b =
    if plan.tasks == 0 then None
    else Some (record {
      node = node;
      sync = false;
      startup = false;
      words = words_of p b;
      preamble = Some b.preamble;
      both = false;
      latest = latest_on plan channel;
    })

abbrev pub sender_or : Parameters → Channel → ℕ → Plan → Option Buffer → Option Due → Option Due
sender_or p channel node plan None others = others
sender_or p channel node plan (Some b) others = dynamic_due p channel node plan b

-- the first of the nodes that has a transmit buffer which admits the slot; none if that node has no host task
abbrev pub sender_from : Parameters → ℕ → Channel → ℕ → ℕ → List Plan → Option Due
sender_from p slot channel cycle node [] = None
sender_from p slot channel cycle node (plan ∷ plans) =
    sender_or p channel node plan (buffer_in slot channel cycle plan)
    (sender_from p slot channel cycle (node + 1) plans)

-- what this node may send in the slot, if anything
abbrev pub due_from : Parameters → ℕ → Plan → ℕ → Channel → ℕ → Option Due
due_from p node plan slot channel cycle =
    if is_static_slot p slot
    then owner_or p node plan (line_in slot channel cycle plan) (buffer_in slot channel cycle plan) None
    else sender_or p channel node plan (buffer_in slot channel cycle plan) None

-- what may be sent in the slot, if anything
abbrev pub due_of : Description → ℕ → Channel → ℕ → Option Due
due_of d slot channel cycle =
    if is_static_slot d.params slot then owner_from d.params slot channel cycle 0 d.plans
    else sender_from d.params slot channel cycle 0 d.plans
