-- The receivers of a link: the receive buffers of the other nodes that admit a frame of it, and the FIFOs to which such
-- a frame can come (chapter 9; the receive FIFO is project-defined). A frame has one of the cycle counts 0 to 63.
use Rattle.std.specs.Prelude.{ℕ, ◌==◌, not, Bool, false, ◌&&◌, List, [], ◌∷◌, ◌++◌, Option, Some, None}
use Rattle.std.specs.Prelude.{if◌then◌else◌}
use Rattle.std.specs.List.{list_any}
use Rattle.fr_slots.specs.declared.plan.Buffer.{Buffer}
use Rattle.fr_slots.specs.declared.plan.Queue.{Queue}
use Rattle.fr_slots.specs.Admission.{cycle_admitted}
use Rattle.fr_slots.specs.Faults.{cycles}
use Rattle.fr_slots.specs.Plans.{Plan, filter_admits, is_receive, queue_admits}
use Rattle.fr_links.specs.declared.links.Link.{Link}
use Rattle.fr_links.specs.declared.receivers.Receiver.{Receiver}
use Rattle.fr_links.specs.Links.{numbered}

-- the receive buffer admits the slot and the channel of the link in the cycle
abbrev pub receives_at : Link → ℕ → Buffer → Bool
receives_at l cycle b = is_receive b.mode && filter_admits b.filter cycle l.slot l.channel

-- the same in a cycle of the link
abbrev pub receives_in : Link → Buffer → ℕ → Bool
receives_in l b cycle = cycle_admitted l.cycles cycle && receives_at l cycle b

-- there is such a cycle
abbrev pub receives : Link → Buffer → Bool
receives l b = list_any (receives_in l b) cycles

-- in a cycle of the link the FIFO admits its slot and channel, and no receive buffer of the node does
abbrev pub queues_in : Link → List Buffer → Queue → ℕ → Bool
queues_in l buffers q cycle =
    cycle_admitted l.cycles cycle
    && (queue_admits q cycle l.slot l.channel && not (list_any (receives_at l cycle) buffers))

-- there is such a cycle
abbrev pub queues : Link → List Buffer → Option Queue → Bool
queues l buffers None = false
queues l buffers (Some q) = list_any (queues_in l buffers q) cycles

-- ---- all receivers

abbrev pub receiver_if : Bool → ℕ → Option ℕ → List Receiver
receiver_if is_one node buffer = if is_one then record { node = node; buffer = buffer } ∷ [] else []

abbrev pub buffer_receiver : Link → ℕ → ℕ → Buffer → List Receiver
buffer_receiver l node number b = receiver_if (receives l b) node (Some number)

-- the receive buffers of a node, and then its FIFO
abbrev pub plan_receivers : Link → ℕ → Plan → List Receiver
plan_receivers l node plan =
    numbered (buffer_receiver l node) 0 plan.buffers ++ receiver_if (queues l plan.buffers plan.queue) node None

-- the sender receives nothing of its own
abbrev pub node_receivers : Link → ℕ → Plan → List Receiver
node_receivers l node plan = if node == l.node then [] else plan_receivers l node plan

abbrev pub receivers_by : List Plan → Link → Option ℕ → List Receiver
receivers_by plans l None = []
receivers_by plans l (Some buffer) = numbered (node_receivers l) 0 plans

-- in the order of the nodes; null frames have no receivers
unfoldable pub receivers : List Plan → Link → List Receiver
receivers plans l = receivers_by plans l l.buffer
