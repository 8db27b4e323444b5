use Rattle.std.proofs.Common.{subst}
use Rattle.fr_live.proofs.StepLemmas.{alike}
use Rattle.fr_live.specs.LiveSteps.{StepsAlike}
use Rattle.fr_live.specs.LiveWorlds.{LiveState}
use Rattle.fr_live.proofs.world.LiveWorld.step.Goals as goal

pub invariant_of-self : goal.invariant_of-self
invariant_of-self c =
    let had = c.self.invariant in
    let stepped =
    alike c.self.inside.machine c.step.new.self c.args.event.now c.step.result c.step.ensures had.0 had.1 in
    (stepped.0, stepped.2)

pub returns : goal.returns
returns c = subst (λ (l : LiveState). StepsAlike l c.args.event.now c.step.result c.step.new.self) c.self.view_is
    (alike c.self.inside.machine c.step.new.self c.args.event.now c.step.result c.step.ensures)
