use Rattle.std.proofs.Common.{take}
use Rattle.std.specs.List.{list_any}
use Rattle.fr_latency.specs.Cells.{AddsTo}
use Rattle.fr_latency.specs.Openings.{follows_node}
use Rattle.fr_latency.proofs.openings.add_nodes.Given as goal

-- the minislots after a frame of the nodes so far
abbrev pub invariant-loop-plan : goal.invariant-loop-plan
invariant-loop-plan l = AddsTo l.earlier
    (λ test cycle minislot.
    list_any (follows_node l.cluster.params l.slot l.channel cycle (test cycle) minislot)
    (take l.plan-index l.cluster.plans)) l.before l.initial.after l.after
