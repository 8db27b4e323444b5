use Rattle.fr_core.proofs.WorldLemmas.{kept_step}
use Rattle.fr_core.proofs.world.World.apply.Goals as goal

pub invariant_of-self : goal.invariant_of-self
invariant_of-self c = kept_step _ _ _ _ c.apply-outcome.ensures c.self.invariant
