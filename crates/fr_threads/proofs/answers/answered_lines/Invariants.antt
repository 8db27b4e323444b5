use Rattle.std.proofs.Common.{◌≡◌, vec_len, length, map, take}
use Rattle.std.specs.List.{All}
use Rattle.std.specs.Vec.{vec_capacity}
use Rattle.fr_threads.proofs.answers.answered_lines.Given as goal
use Rattle.fr_core.specs.Answers.{without_answer, IsAnswered}

abbrev pub invariant-loop-place : goal.invariant-loop-place
invariant-loop-place l =
    (vec_len l.list ≡ l.place)
    × (vec_capacity l.list ≡ length l.lines)
    × (map without_answer l.list.items ≡ map without_answer (take l.place l.lines))
    × All IsAnswered l.list.items
