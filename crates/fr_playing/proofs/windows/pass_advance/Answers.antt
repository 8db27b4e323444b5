use Rattle.fr_core.specs.declared.event.Event.TheVariants.{Advance}
use Rattle.fr_core.specs.declared.event.Reply.TheVariants.{Done}
use Rattle.fr_playing.proofs.StrikingLemmas.{passes_one}
use Rattle.fr_playing.proofs.windows.pass_advance.Goals as goal

pub returns : goal.returns
returns c = passes_one c.args.world.now Advance Done c.advance.new.self c.in_ok-advance.ensures.step
