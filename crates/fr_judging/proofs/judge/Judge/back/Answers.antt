use Rattle.std.proofs.Common.{ap, ◌∙◌}
use Rattle.fr_judging.specs.Judging.{State}
use Rattle.fr_judging.proofs.PlainLemmas.{back_rules, back_channel}
use Rattle.fr_judging.proofs.judge.Judge.back.Goals as goal

pub returns-then-times-ne0-clause-rules : goal.returns-then-times-ne0-clause-rules
returns-then-times-ne0-clause-rules c = ap (λ (s : State). s.rules) c.come_back.ensures ∙ back_rules _ _

pub returns-then-times-ne0-clause-channel : goal.returns-then-times-ne0-clause-channel
returns-then-times-ne0-clause-channel c = ap (λ (s : State). s.channel) c.come_back.ensures ∙ back_channel _ _
