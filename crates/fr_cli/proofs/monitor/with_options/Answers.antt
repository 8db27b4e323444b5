use Rattle.std.proofs.Common.{ap₂, ◌∙◌}
use Rattle.std.proofs.lemmas.Result.{IfOk-weaker}
use Rattle.clap.specs.Words.{with_rule}
use Rattle.fr_cli.specs.MonitorCommands.{with_options}
use Rattle.fr_cli.proofs.monitor.with_options.Goals as goal

pub returns : goal.returns
unfolding with_options
returns c =
    IfOk-weaker c.arg.result _ _ (λ m h. h.shape c.frames_flag-frames.ensures.local
    ∙ ap₂ with_rule c.in_ok-with_macrotick.ensures.app c.frames_flag-frames.ensures.rule) c.arg.ensures
