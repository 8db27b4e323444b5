use Rattle.std.proofs.Common.{◌≡◌, ℕ, Bool}
use Rattle.fr_latency.specs.Below.{most_below}
use Rattle.fr_latency.specs.Latencies.{wait_if}
use Rattle.fr_latency.specs.Tables.{AreAnswers, AreNumbers}
use Rattle.fr_latency.proofs.latency.worst.Given as goal

-- the greatest of the cycles so far
abbrev pub invariant-loop-cycle : goal.invariant-loop-cycle
invariant-loop-cycle l = (test : ℕ → Bool) (end : ℕ → ℕ) → AreAnswers test l.answers → AreNumbers end l.ends
    → l.most ≡ most_below (wait_if l.params.cycle_mt test l.start end) l.cycle
