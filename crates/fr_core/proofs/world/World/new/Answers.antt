use Rattle.fr_core.proofs.WorldLemmas.{kept_opening}
use Rattle.fr_core.proofs.world.World.new.Goals as goal

pub invariant_of-result : goal.invariant_of-result
invariant_of-result c = rw c.in-Ok.ensures.1 (kept_opening _ _)
