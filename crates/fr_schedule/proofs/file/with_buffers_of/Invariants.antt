use Rattle.std.proofs.Common.{◌≡◌, length, drop, map}
use Rattle.fr_schedule.proofs.BufferLemmas.{buffers_left}
use Rattle.fr_schedule.specs.Files.{with_buffers, with_buffers_of}
use Rattle.toml.specs.View.{view}
use Rattle.fr_schedule.proofs.file.with_buffers_of.Given as goal

-- the plan and the remaining buffers give the plan with all buffers
abbrev pub invariant-loop-number : goal.invariant-loop-number
invariant-loop-number l = record {
  so_far : length l.plan.buffers ≡ l.number;
  kept : l.plan ≡ with_buffers l.fn.plan l.plan.buffers;
  left : buffers_left l.params l.node l.fn.plan l.number l.plan.buffers (drop l.number l.values)
      ≡ with_buffers_of l.params l.node (map view l.values) l.fn.plan;
}
