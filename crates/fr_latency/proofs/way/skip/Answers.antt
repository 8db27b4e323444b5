use Rattle.fr_latency.proofs.RowLemmas.{first_slot}
use Rattle.fr_latency.proofs.way.skip.Goals as goal

pub loop-earlier-init : goal.loop-earlier-init
loop-earlier-init c = first_slot c.args.cluster.now c.args.channel c.args.before.now c.requires.begins
