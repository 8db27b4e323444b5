use Rattle.fr_runs.proofs.ApartLemmas.{come_apart}
use Rattle.fr_runs.proofs.check.check_run.Goals as goal

pub returns-clause-apart : goal.returns-clause-apart
returns-clause-apart c =
    come_apart c.args.cluster.now c.args.cycles c.args.faults.now c.in_default-other_fault.ensures
