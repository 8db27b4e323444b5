use Rattle.std.proofs.Common.{◌≡◌, ◌+◌, vec_len, length}
use Rattle.std.specs.Vec.{vec_capacity}
use Rattle.fr_threads.proofs.run.join_nodes.Given as goal

abbrev pub invariant-loop-handle : goal.invariant-loop-handle
invariant-loop-handle g l =
    (vec_len l.answers ≡ vec_len l.initial.answers + length l.yielded)
    × (vec_capacity l.answers ≡ vec_capacity l.initial.answers)
