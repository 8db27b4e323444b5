use Rattle.fr_playing.proofs.SettledLemmas.{settled_run}
use Rattle.fr_playing.proofs.play.play.Goals as goal

pub returns-in-Ok-clause-settled : goal.returns-in-Ok-clause-settled
returns-in-Ok-clause-settled c =
    settled_run c.args.cluster.now c.args.scripts.now c.args.faults.now c.args.cycles c.in-Ok.played
    c.in_default.ensures.refusal c.known.ensures.headline c.in-Ok.ensures
