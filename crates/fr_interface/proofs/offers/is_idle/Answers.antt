use Rattle.std.proofs.Common.{sym, ◌∙◌}
use Rattle.fr_interface.proofs.RangeLemmas.{nothing-empty}
use Rattle.fr_interface.proofs.offers.is_idle.Goals as goal

pub returns-then-is_empty : goal.returns-then-is_empty
returns-then-is_empty c = λ is.
    nothing-empty c.args.plan.now c.args.window.now c.args.channel c.in-Some.slot c.sending_range.result
    c.own_range.result (sym c.slot.ensures ∙ c.in-Some.is) c.sending_range.ensures c.own_range.ensures
    (sym c.is_empty.ensures ∙ c.if-is_empty.true) (sym c.is_empty-then-is_empty.ensures ∙ is)
