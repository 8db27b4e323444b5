-- The receivers of a transmission: the receive buffers and receive FIFOs of the nodes, by each node's observation of
-- the window (chapter 9; the receive FIFO, and channel A before B, are project-defined).
use Rattle.std.specs.Prelude.{ℕ, ◌+◌, List, [], ◌∷◌, ◌++◌, Option, Some, None}
use Rattle.fr_bus.specs.Record.{Recorded, seen_by}
use Rattle.fr_capture.specs.declared.takers.Taker.{Taker}
use Rattle.fr_capture.specs.Takers.{takers_of}
use Rattle.fr_interface.specs.State.{State}
use Rattle.fr_slots.specs.declared.channel.Channel.{Channel}
use Rattle.fr_slots.specs.declared.channel.Channel.TheVariants.{A, B}
use Rattle.fr_slots.specs.Parameters.{Parameters}
use Rattle.fr_slots.specs.Plans.{Plan}

-- the receivers of a node
abbrev pub takers_at : Parameters → Plan → Recorded → Channel → ℕ → List Taker
takers_at p plan r channel node =
    takers_of p plan r.window (seen_by p r A node) (seen_by p r B node) channel (Some node)

-- the receivers of all nodes from this one on, in their order
abbrev pub takers_from : Parameters → Recorded → Channel → ℕ → List State → List Taker
takers_from p r channel node [] = []
takers_from p r channel node (s ∷ ss) =
    takers_at p s.plan r channel node ++ takers_from p r channel (node + 1) ss

-- the same by the plans of the nodes from this one on
abbrev pub takers_by_plans : Parameters → Recorded → Channel → ℕ → List Plan → List Taker
takers_by_plans p r channel node [] = []
takers_by_plans p r channel node (plan ∷ plans) =
    takers_at p plan r channel node ++ takers_by_plans p r channel (node + 1) plans

abbrev pub takers_in : Parameters → List State → Option Recorded → Channel → List Taker
takers_in p interfaces None channel = []
takers_in p interfaces (Some r) channel = takers_from p r channel 0 interfaces
