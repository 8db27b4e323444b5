use Rattle.fr_commands.specs.PlanText.{AreCycleTexts, Adds}
use Rattle.fr_commands.proofs.plan.write_cycles.Given as goal

abbrev pub invariant-loop-number : goal.invariant-loop-number
invariant-loop-number g l = Adds (AreCycleTexts l.guardian l.node l.channel l.number) (g.W.Write.contents l.fn.writer)
    (g.W.Write.contents l.writer)
