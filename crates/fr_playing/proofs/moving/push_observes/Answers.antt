use Rattle.std.proofs.Common.{arith}
use Rattle.std.proofs.lemmas.Grind.{common_steps}
use Rattle.fr_playing.proofs.MovingLemmas.{nodes_more}
use Rattle.fr_playing.specs.Moving.{observe_events}
use Rattle.fr_playing.proofs.moving.push_observes.Goals as goal

pub loop-number-preserved : goal.loop-number-preserved
loop-number-preserved c = rw (nodes_more observe_events c.loop-number.number) (grind (arith, common_steps))
