use Rattle.std.proofs.Common.{◌≡◌, ◌+◌, vec_len, length}
use Rattle.std.specs.Vec.{vec_capacity}
use Rattle.fr_threads.proofs.node.join_tasks.Given as goal

abbrev pub invariant-loop-handle : goal.invariant-loop-handle
invariant-loop-handle g l =
    (vec_len l.joined.shares ≡ vec_len l.initial.joined.shares + length l.yielded)
    × (vec_len l.joined.answers ≡ vec_len l.initial.joined.answers + length l.yielded)
    × (vec_capacity l.joined.shares ≡ vec_capacity l.initial.joined.shares)
    × (vec_capacity l.joined.answers ≡ vec_capacity l.initial.joined.answers)
