use Rattle.fr_core.proofs.FrontLemmas.{accepts_kept}
use Rattle.fr_core.proofs.world.World.offer.Goals as goal

pub invariant_of-self : goal.invariant_of-self
invariant_of-self c = accepts_kept _ _ _ c.offer-accepted.ensures.accepts c.self.invariant
