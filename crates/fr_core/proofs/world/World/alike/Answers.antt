use Rattle.fr_core.proofs.HeadlineLemmas.{alike_worlds}
use Rattle.fr_core.proofs.world.World.alike.Goals as goal

pub returns : goal.returns
returns c = alike_worlds _ _ c.known.ensures.headline c.known-2.ensures.headline
