use Rattle.std.proofs.Common.{◌∙◌}
use Rattle.fr_endless.proofs.ReportLemmas.{step_buffers}
use Rattle.fr_endless.proofs.world.EndlessWorld.step.Goals as goal

pub invariant_of-self : goal.invariant_of-self
invariant_of-self c =
    let had = c.self.invariant in
    let stepped = c.step.ensures had.0 had.1 in
    (stepped.0, stepped.2, had.2 ∙ step_buffers had.0 c.args.event.now c.step.result stepped.0 stepped.1)
