use Rattle.std.proofs.Common.{subst, sym}
use Rattle.fr_core.specs.Answers.{AreUnanswered}
use Rattle.fr_scenario.proofs.RunLemmas.{run_unanswered}
use Rattle.fr_scenario.proofs.scenario.Scenario.of_lines.Goals as goal

pub invariant_of-result : goal.invariant_of-result
invariant_of-result c =
    subst AreUnanswered (sym c.in_ok-scripts.ensures)
    (run_unanswered c.args.cycles c.as_slice-6.result.now)
