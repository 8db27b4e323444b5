use Rattle.std.proofs.Common.{take}
use Rattle.std.specs.List.{list_any}
use Rattle.fr_latency.specs.Cells.{AddsTo}
use Rattle.fr_latency.specs.Openings.{follows_buffer}
use Rattle.fr_latency.proofs.openings.add_node.Given as goal

-- the minislots after a frame of the buffers so far
abbrev pub invariant-loop-buffer : goal.invariant-loop-buffer
invariant-loop-buffer l = AddsTo l.earlier
    (λ test cycle minislot.
    list_any (follows_buffer l.params l.slot l.channel cycle (test cycle) minislot l.plan)
    (take l.buffer-index l.plan.buffers)) l.before l.initial.after l.after
