use Rattle.std.proofs.Common.{subst, take}
use Rattle.std.specs.Prelude.{slice_get}
use Rattle.fr_live.proofs.StepLemmas.{accepts_alike, refuses_alike}
use Rattle.fr_live.specs.LiveSteps.{AcceptsAlike, see_events}
use Rattle.fr_live.specs.LiveWorlds.{LiveState}
use Rattle.fr_live.proofs.world.LiveWorld.see.Goals as goal

pub invariant_of-self : goal.invariant_of-self
invariant_of-self c =
    let had = c.self.invariant in
    let done =
    accepts_alike c.self.inside.machine c.see.new.self (take c.see.result (see_events c.args.node))
    c.see.ensures.accepts had.0 had.1 in
    (done.0, done.2)

pub returns-clause-accepts : goal.returns-clause-accepts
returns-clause-accepts c =
    subst (λ (l : LiveState). AcceptsAlike l (take c.see.result (see_events c.args.node)) c.see.new.self) c.self.view_is
    (accepts_alike c.self.inside.machine c.see.new.self (take c.see.result (see_events c.args.node))
    c.see.ensures.accepts)

pub returns-clause-refuses : goal.returns-clause-refuses
returns-clause-refuses c =
    refuses_alike c.see.new.self (slice_get (see_events c.args.node) c.see.result) c.see.ensures.refuses
