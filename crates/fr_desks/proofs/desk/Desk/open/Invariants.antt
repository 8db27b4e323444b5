use Rattle.std.proofs.Common.{◌≡◌, ℕ, ◌+◌, ◌<◌, vec_len, slice_index_or}
use Rattle.std.specs.List.{All}
use Rattle.std.specs.Vec.{vec_capacity}
use Rattle.fr_desks.proofs.desk.Desk.open.Given as goal

abbrev pub invariant-loop-number : goal.invariant-loop-number
invariant-loop-number g l =
    (vec_len l.passes ≡ l.number)
    × (vec_len l.shares + l.number ≡ l.tasks)
    × (vec_capacity l.passes ≡ l.tasks)
    × All (λ s. s ≡ 0) l.shares.items
    × All (λ p. p.commits ≡ 0) l.passes.items
    × ((k : ℕ) (d : _) → k < l.number → (slice_index_or l.passes.items k d).task ≡ k)
