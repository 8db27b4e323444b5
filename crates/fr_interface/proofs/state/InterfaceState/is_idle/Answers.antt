use Rattle.std.proofs.Common.{subst}
use Rattle.fr_interface.specs.Sending.{OffersNothing}
use Rattle.fr_interface.specs.Standing.{Standing}
use Rattle.fr_slots.specs.declared.channel.Channel.TheVariants.{A, B}
use Rattle.fr_interface.proofs.state.InterfaceState.is_idle.Goals as goal

pub returns-then-is_idle-clause-on_a : goal.returns-then-is_idle-clause-on_a
returns-then-is_idle-clause-on_a c = λ is.
    subst (λ (h : Standing). OffersNothing h.plan c.args.window.now A) c.self.view_is
    (c.is_idle.ensures c.if-is_idle.true)

pub returns-then-is_idle-clause-on_b : goal.returns-then-is_idle-clause-on_b
returns-then-is_idle-clause-on_b c = λ is.
    subst (λ (h : Standing). OffersNothing h.plan c.args.window.now B) c.self.view_is
    (c.is_idle-then-is_idle.ensures is)
