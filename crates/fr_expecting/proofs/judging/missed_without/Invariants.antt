use Rattle.std.proofs.Common.{◌≡◌}
use Rattle.fr_expecting.specs.declared.missed.Found.TheVariants.{NoBuffer}
use Rattle.fr_expecting.specs.Expected.{missed_with}
use Rattle.fr_expecting.proofs.judging.missed_without.Given as goal

-- as missed by the cycles so far
abbrev pub invariant-loop-cycle : goal.invariant-loop-cycle
invariant-loop-cycle l = l.missed ≡ missed_with l.cycle l.expectation (λ cycle. NoBuffer)
