use Rattle.std.proofs.Common.{◌≡◌, ◌≤◌, take}
use Rattle.fr_why.specs.Faults.{window_count}
use Rattle.fr_why.proofs.explain.window_count.Given as goal

abbrev pub invariant-loop-number : goal.invariant-loop-number
invariant-loop-number l = (l.count ≡ window_count (take l.number l.journal.entries)) × (l.count ≤ l.number)
