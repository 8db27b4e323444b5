use Rattle.std.proofs.Common.{◌≡◌, vec_len, length}
use Rattle.std.specs.Vec.{vec_capacity}
use Rattle.fr_threads.proofs.task.do_lines.Given as goal

abbrev pub invariant-loop-line : goal.invariant-loop-line
invariant-loop-line g l = (vec_len l.answers ≡ l.line-index) × (vec_capacity l.answers ≡ length l.lines)
