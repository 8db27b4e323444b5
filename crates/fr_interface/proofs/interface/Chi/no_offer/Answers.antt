use Rattle.std.proofs.Common.{sym, subst}
use Rattle.fr_interface.specs.Sending.{OffersNothing}
use Rattle.fr_interface.specs.State.{State}
use Rattle.fr_interface.proofs.interface.Chi.no_offer.Goals as goal

pub no_offer-requires : goal.no_offer-requires
no_offer-requires g c =
    subst (λ (s : State). OffersNothing s.plan c.args.window.now c.args.channel) (sym c.self.view_is) c.requires
