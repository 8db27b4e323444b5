use Rattle.fr_core.proofs.WorldLemmas.{kept_step}
use Rattle.fr_core.specs.declared.event.Event.TheVariants.{Advance}
use Rattle.fr_core.proofs.world.World.advance.Goals as goal

pub invariant_of-self : goal.invariant_of-self
invariant_of-self c = kept_step _ Advance _ _ c.advance-outcome.ensures c.self.invariant
