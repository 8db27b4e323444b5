use Rattle.fr_core.proofs.WorldLemmas.{kept_step}
use Rattle.fr_core.specs.declared.event.Event.TheVariants.{Seal}
use Rattle.fr_core.proofs.world.World.seal.Goals as goal

pub invariant_of-self : goal.invariant_of-self
invariant_of-self c = kept_step _ Seal _ _ c.seal-outcome.ensures c.self.invariant
