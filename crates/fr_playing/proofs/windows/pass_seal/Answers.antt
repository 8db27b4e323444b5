use Rattle.fr_core.specs.declared.event.Event.TheVariants.{Seal}
use Rattle.fr_core.specs.declared.event.Reply.TheVariants.{Done}
use Rattle.fr_playing.proofs.StrikingLemmas.{passes_one}
use Rattle.fr_playing.proofs.windows.pass_seal.Goals as goal

pub returns : goal.returns
returns c = passes_one c.args.world.now Seal Done c.seal.new.self c.in_ok-seal.ensures.step
