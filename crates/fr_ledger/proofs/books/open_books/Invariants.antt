use Rattle.std.proofs.Common.{◌≡◌, ◌+◌, vec_len}
use Rattle.std.specs.Vec.{vec_capacity}
use Rattle.std.specs.List.{All}
use Rattle.fr_ledger.proofs.books.open_books.Given as goal

abbrev pub invariant-loop-task : goal.invariant-loop-task
invariant-loop-task g l = (l.rest.parts + l._task ≡ l.tasks + 1) × (l.rest.amount ≡ 0) × (l.posts.total ≡ 0) ×
    (vec_len l.shares ≡ l._task) × (vec_capacity l.shares ≡ l.tasks) × All (λ s. s ≡ 0) l.shares.items
