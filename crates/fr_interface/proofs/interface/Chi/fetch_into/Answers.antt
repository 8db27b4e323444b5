use Rattle.std.proofs.Common.{subst}
use Rattle.fr_interface.specs.Sending.{OffersNothing}
use Rattle.fr_interface.specs.State.{State}
use Rattle.fr_slots.specs.declared.channel.Channel.TheVariants.{A, B}
use Rattle.fr_interface.proofs.interface.Chi.fetch_into.Goals as goal

pub no_offer-no_a-requires : goal.no_offer-no_a-requires
no_offer-no_a-requires g c =
    subst (λ (s : State). OffersNothing s.plan c.args.window.now A) c.self.view_is
    (c.is_idle.ensures.on_a c.if-is_idle.true)

pub no_offer-no_b-requires : goal.no_offer-no_b-requires
no_offer-no_b-requires g c =
    subst (λ (s : State). OffersNothing s.plan c.args.window.now B) c.self.view_is
    (c.is_idle.ensures.on_b c.if-is_idle.true)
