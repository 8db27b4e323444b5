use Rattle.std.proofs.Common.{◌≡◌, ◌≤◌, ℕ, Bool}
use Rattle.fr_latency.specs.Below.{count_below}
use Rattle.fr_latency.specs.Tables.{AreAnswers}
use Rattle.fr_latency.proofs.latency.count.Given as goal

abbrev pub invariant-loop-number : goal.invariant-loop-number
invariant-loop-number l = record {
  few : l.count ≤ l.number;
  same : (test : ℕ → Bool) → AreAnswers test l.answers → l.count ≡ count_below test l.number;
}
