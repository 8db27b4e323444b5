use Rattle.std.proofs.Common.{List, subst}
use Rattle.fr_core.specs.declared.event.Event.{Event}
use Rattle.fr_playing.specs.Moving.{DoesAll}
use Rattle.fr_playing.proofs.MovingLemmas.{does_after, rest_all}
use Rattle.fr_playing.proofs.moving.do_all.Goals as goal

pub returns : goal.returns
returns c =
    let w = c.args.world.now in
    let late = c.count_late-late.result in
    does_after w late c.args.events.now c.do_each.result c.do_each.new.world c.count_late-late.ensures.late
    (subst (λ (l : List Event). DoesAll w l c.do_each.result c.do_each.new.world) (rest_all late c.args.events.now)
    c.do_each.ensures)
