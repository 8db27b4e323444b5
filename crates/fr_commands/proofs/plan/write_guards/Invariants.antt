use Rattle.fr_commands.specs.PlanText.{AreGuardTexts, Adds}
use Rattle.fr_commands.proofs.plan.write_guards.Given as goal

abbrev pub invariant-loop-number : goal.invariant-loop-number
invariant-loop-number g l = Adds (AreGuardTexts l.guardian l.number) (g.W.Write.contents l.fn.writer)
    (g.W.Write.contents l.writer)
