use Rattle.fr_core.specs.declared.event.Reply.TheVariants.{Done}
use Rattle.fr_core.specs.Steps.{answered}
use Rattle.fr_endless.specs.Taps.{with_taps}
use Rattle.fr_endless.proofs.MovingLemmas.{moved_on}
use Rattle.fr_endless.proofs.moving.finish_window.Goals as goal

pub returns : goal.returns
returns g c =
    moved_on c.args.faults.now c.args.events.now (with_taps c.args.world.now c.args.taps.now)
    (with_taps c.strike_open.new.world c.strike_open.new.taps)
    (with_taps c.do_all-found.new.world c.do_all-found.new.taps)
    (with_taps c.apply_told-last.new.world c.apply_told-last.new.taps) c.do_all-found.result c.hindrance.result
    (answered Done c.apply_told-last.result)
    c.strike_open.ensures c.do_all-found.ensures c.apply_told-last.ensures c.hindrance.ensures
