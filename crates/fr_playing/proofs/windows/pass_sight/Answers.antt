use Rattle.std.proofs.Common.{arith, refl}
use Rattle.fr_playing.proofs.PassingLemmas.{all_passed, rest_passed}
use Rattle.fr_playing.specs.Moving.{see_events}
use Rattle.fr_playing.proofs.windows.pass_sight.Goals as goal

pub returns-then-accepted-lt2 : goal.returns-then-accepted-lt2
returns-then-accepted-lt2 c =
    rest_passed c.pass_sight_from.result c.args.world.now c.see-accepted.new.self c.pass_sight_from.new.world
    (see_events c.args.node) c.see-accepted.result c.see-accepted.result refl c.see-accepted.ensures.accepts
    c.pass_sight_from.ensures

pub returns : goal.returns
returns c =
    all_passed c.args.world.now c.see-accepted.new.self (see_events c.args.node) c.see-accepted.result
    (omega (arith, c.if-accepted-lt2.false)) c.see-accepted.ensures.accepts
