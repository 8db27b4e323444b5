use Rattle.fr_core.proofs.WorldLemmas.{kept_step}
use Rattle.fr_core.specs.declared.event.Event.TheVariants.{Inject}
use Rattle.fr_core.proofs.world.World.inject.Goals as goal

pub invariant_of-self : goal.invariant_of-self
invariant_of-self c = kept_step _ (Inject c.args.fault.now) _ _ c.inject-outcome.ensures c.self.invariant
