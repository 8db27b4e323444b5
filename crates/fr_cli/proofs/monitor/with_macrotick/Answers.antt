use Rattle.std.proofs.Common.{ap₂, ◌∙◌}
use Rattle.std.proofs.lemmas.Result.{IfOk-weaker}
use Rattle.clap.specs.Words.{with_rule}
use Rattle.fr_cli.specs.MonitorCommands.{with_macrotick_option}
use Rattle.fr_cli.proofs.monitor.with_macrotick.Goals as goal

pub returns-clause-app : goal.returns-clause-app
unfolding with_macrotick_option
returns-clause-app c =
    IfOk-weaker c.arg.result _ _ (λ m h. h.shape c.option-macrotick.ensures.local
    ∙ ap₂ with_rule c.in_ok-with_channel.ensures.app c.option-macrotick.ensures.rule) c.arg.ensures
