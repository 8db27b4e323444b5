use Rattle.fr_playing.proofs.PassingLemmas.{nodes_passed}
use Rattle.fr_playing.proofs.StrikingLemmas.{passes_none}
use Rattle.fr_playing.specs.Moving.{see_events}
use Rattle.fr_playing.proofs.windows.pass_sights.Goals as goal

pub loop-number-init : goal.loop-number-init
loop-number-init c = passes_none c.args.world.now

pub loop-number-preserved : goal.loop-number-preserved
loop-number-preserved c =
    nodes_passed see_events c.loop-number.number c.from_number.result c.args.world.now c.loop-number.world
    c.pass_sight.new.world c.from_number.ensures c.loop-number.invariant c.in_ok-pass_sight.ensures
