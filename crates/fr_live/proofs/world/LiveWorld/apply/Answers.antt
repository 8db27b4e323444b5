use Rattle.std.proofs.Common.{subst}
use Rattle.fr_live.proofs.StepLemmas.{applies_alike}
use Rattle.fr_live.specs.LiveSteps.{AppliesAlike}
use Rattle.fr_live.specs.LiveWorlds.{LiveState}
use Rattle.fr_live.proofs.world.LiveWorld.apply.Goals as goal

pub invariant_of-self : goal.invariant_of-self
invariant_of-self c =
    let had = c.self.invariant in
    let stepped =
    applies_alike c.self.inside.machine c.apply.new.self c.args.event.now c.apply.result c.apply.ensures had.0 had.1 in
    (stepped.0, stepped.2)

pub returns : goal.returns
returns c = subst (λ (l : LiveState). AppliesAlike l c.args.event.now c.apply.result c.apply.new.self) c.self.view_is
    (applies_alike c.self.inside.machine c.apply.new.self c.args.event.now c.apply.result c.apply.ensures)
