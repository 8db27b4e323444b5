use Rattle.std.proofs.Common.{◌∙◌, take}
use Rattle.fr_endless.proofs.ReportLemmas.{accepts_buffers}
use Rattle.fr_live.specs.LiveSteps.{see_events}
use Rattle.fr_endless.proofs.world.EndlessWorld.see.Goals as goal

pub invariant_of-self : goal.invariant_of-self
invariant_of-self c =
    let had = c.self.invariant in
    let done = c.see.ensures.accepts had.0 had.1 in
    (done.0, done.2, had.2 ∙ accepts_buffers (take c.see.result (see_events c.args.node)) had.0 done.0 done.1)
