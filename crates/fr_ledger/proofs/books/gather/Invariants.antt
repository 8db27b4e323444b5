use Rattle.std.proofs.Common.{◌≡◌, ◌+◌, sum, length}
use Rattle.fr_ledger.proofs.books.gather.Given as goal

abbrev pub invariant-loop-part : goal.invariant-loop-part
invariant-loop-part g l = (l.all.parts ≡ 1 + length l.yielded) × (l.all.amount ≡ l.fn.desk + sum l.yielded)
