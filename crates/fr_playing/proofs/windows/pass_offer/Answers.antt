use Rattle.std.proofs.Common.{arith, refl}
use Rattle.fr_playing.proofs.PassingLemmas.{all_passed, rest_passed}
use Rattle.fr_playing.specs.Moving.{offer_events}
use Rattle.fr_playing.proofs.windows.pass_offer.Goals as goal

pub returns-then-accepted-lt3 : goal.returns-then-accepted-lt3
returns-then-accepted-lt3 c =
    rest_passed c.pass_offer_from.result c.args.world.now c.offer-accepted.new.self c.pass_offer_from.new.world
    (offer_events c.args.node) c.offer-accepted.result c.offer-accepted.result refl c.offer-accepted.ensures.accepts
    c.pass_offer_from.ensures

pub returns : goal.returns
returns c =
    all_passed c.args.world.now c.offer-accepted.new.self (offer_events c.args.node) c.offer-accepted.result
    (omega (arith, c.if-accepted-lt3.false)) c.offer-accepted.ensures.accepts
