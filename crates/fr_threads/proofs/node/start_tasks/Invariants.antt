use Rattle.std.proofs.Common.{◌≡◌, ◌+◌, vec_len, length}
use Rattle.std.specs.Vec.{vec_capacity}
use Rattle.fr_threads.proofs.node.start_tasks.Given as goal

abbrev pub invariant-loop-pass : goal.invariant-loop-pass
invariant-loop-pass g l =
    (vec_len l.running ≡ vec_len l.initial.running + length l.yielded)
    × (vec_capacity l.running ≡ vec_capacity l.initial.running)
