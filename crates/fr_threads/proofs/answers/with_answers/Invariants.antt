use Rattle.std.proofs.Common.{◌≡◌, vec_len, length, map, take}
use Rattle.std.specs.List.{All}
use Rattle.std.specs.Vec.{vec_capacity}
use Rattle.fr_threads.proofs.answers.with_answers.Given as goal
use Rattle.fr_core.specs.Answers.{without_answers, IsAnswered}

abbrev pub invariant-loop-script : goal.invariant-loop-script
invariant-loop-script l =
    (vec_len l.list ≡ l.script-index)
    × (vec_capacity l.list ≡ length l.scripts)
    × (map without_answers l.list.items ≡ map without_answers (take l.script-index l.scripts))
    × All (λ s. All IsAnswered s.lines) l.list.items
