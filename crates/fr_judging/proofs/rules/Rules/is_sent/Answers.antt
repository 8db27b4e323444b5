use Rattle.std.proofs.Common.{sym, ap, ◌∙◌}
use Rattle.fr_judging.specs.Rules.{sent_or}
use Rattle.fr_judging.proofs.SenderLemmas.{sent_is}
use Rattle.fr_judging.proofs.rules.Rules.is_sent.Goals as goal

pub returns-in-Some : goal.returns-in-Some
returns-in-Some c =
    c.is_some.ensures
    ∙ sent_is c.sender.result c.args.self.now.cluster c.in-Some.slot c.args.channel c.args.cycle c.sender.ensures.sender
    c.sender.ensures.nobody
    ∙ ap (sent_or c.args.self.now.cluster c.args.channel c.args.cycle) (sym c.in-Some.is ∙ c.new.ensures)
