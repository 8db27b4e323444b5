use Rattle.std.proofs.Common.{refl}
use Rattle.fr_core.proofs.FrontLemmas.{accepts_none}
use Rattle.fr_core.proofs.world.World.pass.Goals as goal

pub returns-in-Other-clause-accepts : goal.returns-in-Other-clause-accepts
returns-in-Other-clause-accepts c = accepts_none c.args.self.now c.args.self.now refl
