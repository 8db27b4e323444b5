use Rattle.std.proofs.Common.{◌≡◌, ◌+◌, ◌≤◌, vec_len, length, map}
use Rattle.std.specs.Result.{result_err}
use Rattle.std.specs.Vec.{vec_capacity}
use Rattle.fr_threads.specs.Failures.{told_of_all}
use Rattle.fr_threads.proofs.node.keep_answers.Given as goal

abbrev pub invariant-loop-answer : goal.invariant-loop-answer
invariant-loop-answer l =
    (l.told ≡ told_of_all (map result_err l.yielded))
    × (vec_len l.kept ≤ vec_len l.initial.kept + length l.yielded)
    × (vec_capacity l.kept ≡ vec_capacity l.initial.kept)
