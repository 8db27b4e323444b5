use Rattle.fr_core.specs.declared.event.Event.TheVariants.{Inject}
use Rattle.fr_core.specs.declared.event.Reply.TheVariants.{Done}
use Rattle.fr_playing.proofs.StrikingLemmas.{tells_accepted, tells_refused}
use Rattle.fr_playing.proofs.striking.attempt.Goals as goal

pub returns-in-Ok : goal.returns-in-Ok
returns-in-Ok c =
    tells_accepted c.args.world.now (Inject c.args.fault.now) Done c.inject-answer.new.self c.in-Ok.ensures.step

pub returns-in-Err : goal.returns-in-Err
returns-in-Err c =
    tells_refused c.args.world.now (Inject c.args.fault.now) _ c.inject-answer.new.self c.in-Err.ensures.step
