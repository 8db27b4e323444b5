use Rattle.std.proofs.Common.{◌≡◌, ℕ, Bool, ◌||◌}
use Rattle.std.specs.Prelude.{not}
use Rattle.fr_slots.specs.Admission.{cycle_admitted}
use Rattle.fr_latency.specs.Below.{all_below}
use Rattle.fr_latency.specs.Tables.{AreAnswers}
use Rattle.fr_latency.proofs.latency.are_all.Given as goal

abbrev pub invariant-loop-number : goal.invariant-loop-number
invariant-loop-number l = (test : ℕ → Bool) → AreAnswers test l.answers
    → l.all ≡ all_below (λ cycle. not (cycle_admitted l.cycles cycle) || test cycle) l.number
