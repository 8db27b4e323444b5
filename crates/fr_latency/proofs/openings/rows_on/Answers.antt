use Rattle.fr_latency.proofs.ExactLemmas.{true_to_lanes}
use Rattle.fr_latency.proofs.LaneLemmas.{rows_are_exact}
use Rattle.fr_latency.proofs.openings.rows_on.Goals as goal

pub returns-in_err-before-clause-lanes : goal.returns-in_err-before-clause-lanes
returns-in_err-before-clause-lanes c = true_to_lanes c.args.cluster.now c.params.ensures.lawful

pub returns-in_err-after-clause-lanes : goal.returns-in_err-after-clause-lanes
returns-in_err-after-clause-lanes c = true_to_lanes c.args.cluster.now c.params.ensures.lawful

pub returns-clause-lanes : goal.returns-clause-lanes
returns-clause-lanes c = true_to_lanes c.args.cluster.now c.params.ensures.lawful

pub returns-clause-exact : goal.returns-clause-exact
returns-clause-exact c =
    rows_are_exact c.args.cluster.now c.params.ensures.lawful c.args.channel c.rows_from.result c.rows_from.ensures
