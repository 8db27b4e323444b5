use Rattle.fr_commands.specs.PlanText.{node_text}
use Rattle.fr_files.proofs.NodeTextLemmas.{AreNodes}
use Rattle.fr_commands.proofs.plan.write_dynamics.Given as goal

abbrev pub invariant-loop-number : goal.invariant-loop-number
invariant-loop-number g l = AreNodes (node_text l.cluster.params) l.cluster.plans l.number
    (g.W.Write.contents l.fn.writer) (g.W.Write.contents l.writer)
