use Rattle.std.proofs.Common.{◌≡◌, ◌+◌, ◌≤◌, vec_len, length, map}
use Rattle.std.specs.Result.{result_err}
use Rattle.std.specs.Vec.{vec_capacity}
use Rattle.fr_interface.specs.Commits.{commits_of}
use Rattle.fr_threads.specs.Failures.{told_of_all}
use Rattle.fr_threads.proofs.run.keep_nodes.Given as goal

abbrev pub invariant-loop-answer : goal.invariant-loop-answer
invariant-loop-answer l =
    (l.told ≡ told_of_all (map result_err l.yielded))
    × (vec_len l.nodes.interfaces ≤ vec_len l.initial.nodes.interfaces + length l.yielded)
    × (vec_len l.nodes.commits ≤ vec_len l.initial.nodes.commits + length l.yielded)
    × (vec_len l.nodes.answers ≤ vec_len l.initial.nodes.answers + length l.yielded)
    × (vec_capacity l.nodes.interfaces ≡ vec_capacity l.initial.nodes.interfaces)
    × (vec_capacity l.nodes.commits ≡ vec_capacity l.initial.nodes.commits)
    × (vec_capacity l.nodes.answers ≡ vec_capacity l.initial.nodes.answers)
    × (l.nodes.commits.items ≡ map commits_of l.nodes.interfaces.items)
