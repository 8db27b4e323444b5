use Rattle.std.proofs.Common.{◌≡◌, ℕ, List, false, ◌++◌, drop}
use Rattle.std.specs.Io.KnownBytes.{Appends}
use Rattle.fr_monitoring.specs.SummaryText.{nodes_from}
use Rattle.fr_monitoring.proofs.summary.write_nodes.Given as goal

-- the nodes so far are written, and the others are left
abbrev pub invariant-loop-node : goal.invariant-loop-node
invariant-loop-node g l =
    (text : List ℕ) × Appends (g.W.Write.contents l.fn.writer) (g.W.Write.contents l.writer) text
    × (text ++ nodes_from l.params l.slot l.channel l.some l.node-counter (drop l.node-counter l.plans)
    ≡ nodes_from l.params l.slot l.channel false 0 l.plans)
