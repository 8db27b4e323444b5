use Rattle.std.proofs.Common.{◌∙◌}
use Rattle.fr_core.specs.Steps.{event_of}
use Rattle.fr_endless.proofs.ReportLemmas.{step_buffers}
use Rattle.fr_live.specs.LiveSteps.{with_answer}
use Rattle.fr_endless.proofs.world.EndlessWorld.call.Goals as goal

pub invariant_of-self : goal.invariant_of-self
invariant_of-self c =
    let had = c.self.invariant in
    let stepped = c.call.ensures.steps had.0 had.1 in (
      stepped.0,
      stepped.2,
      had.2 ∙ step_buffers had.0 (event_of c.args.node c.args.task c.args.call.now) (with_answer c.call.result)
          stepped.0 stepped.1,
    )
