use Rattle.std.proofs.Common.{◌∙◌}
use Rattle.fr_core.specs.Steps.{answered, step_reply}
use Rattle.fr_endless.proofs.ReportLemmas.{step_buffers}
use Rattle.fr_endless.proofs.world.EndlessWorld.apply.Goals as goal

pub invariant_of-self : goal.invariant_of-self
invariant_of-self c =
    let had = c.self.invariant in
    let event = c.args.event.now in
    let answer = answered (step_reply had.0 event) c.apply.result in
    let stepped = c.apply.ensures had.0 had.1 in
    (stepped.0, stepped.2, had.2 ∙ step_buffers had.0 event answer stepped.0 stepped.1)
