use Rattle.fr_streaming.proofs.AlikeLemmas.{passed_one}
use Rattle.fr_streaming.proofs.playing.pass.Goals as goal

pub returns-in-Ok : goal.returns-in-Ok
returns-in-Ok c =
    passed_one c.args.world.now c.apply.new.self c.args.event.now c.apply.result _ c.in-Ok.is c.apply.ensures
