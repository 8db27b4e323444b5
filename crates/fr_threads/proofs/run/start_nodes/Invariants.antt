use Rattle.std.proofs.Common.{◌≡◌, ◌+◌, vec_len}
use Rattle.std.specs.Vec.{vec_capacity}
use Rattle.fr_threads.proofs.run.start_nodes.Given as goal

abbrev pub invariant-loop-number : goal.invariant-loop-number
invariant-loop-number g l =
    (vec_len l.running ≡ vec_len l.initial.running + l.number)
    × (vec_capacity l.running ≡ vec_capacity l.initial.running)
