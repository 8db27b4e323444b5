use Rattle.std.proofs.Common.{◌∙◌, List, ap, sym}
use Rattle.fr_bus.specs.declared.outcome.Sent.{Sent}
use Rattle.fr_bus.specs.Outcome.{heard_of}
use Rattle.fr_bus.specs.Record.{corrupt_on}
use Rattle.fr_bus.proofs.live.hear.Goals as goal

pub returns-then-is_silent : goal.returns-then-is_silent
returns-then-is_silent c =
    let r = c.args.sealed.now in
    c.fall_silent.ensures
    ∙ sym (ap (λ (ts : List Sent). heard_of c.args.params.now r.window (corrupt_on r c.args.channel) ts)
    (c.is_silent.ensures.0 c.if-is_silent.true))
