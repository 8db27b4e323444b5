use Rattle.fr_endless.proofs.TraceLemmas.{accepts_none}
use Rattle.fr_endless.proofs.world.EndlessWorld.pass.Goals as goal

pub returns-in-Other-clause-accepts : goal.returns-in-Other-clause-accepts
returns-in-Other-clause-accepts c = accepts_none c.args.self.now
