use Rattle.std.proofs.Common.{◌≡◌, ℕ, ◌-◌, Bool}
use Rattle.fr_latency.specs.Latencies.{first_from, is_after}
use Rattle.fr_latency.specs.Tables.{AreAnswers}
use Rattle.fr_latency.proofs.latency.distance.Given as goal

-- no earlier cycle has the answer `true`
abbrev pub invariant-loop-later : goal.invariant-loop-later
invariant-loop-later l = (test : ℕ → Bool) → AreAnswers test l.answers
    → first_from (is_after test l.cycle) 1 63 ≡ first_from (is_after test l.cycle) l.later (64 - l.later)
