use Rattle.std.proofs.Common.{◌≡◌, ◌∙◌, Some, ap, sym}
use Rattle.fr_bus.specs.States.{collecting_of}
use Rattle.fr_playing.proofs.MovingLemmas.{strikes_none, strikes_some}
use Rattle.fr_playing.specs.Moving.{run_cycle_after}
use Rattle.fr_slots.specs.Windows.{run_cycle}
use Rattle.fr_playing.proofs.moving.strike_open.Goals as goal

pub returns-in-Some : goal.returns-in-Some
returns-in-Some c =
    let opened : collecting_of c.args.world.now.bus ≡ Some c.in-Some.window =
    ap collecting_of (sym c.bus.ensures.value) ∙ sym c.in-Some.ensures in
    let cycle_is = c.run_cycle-cycle.ensures
    ∙ ap (λ n. run_cycle n c.in-Some.window) (c.from.ensures ∙ c.cycles_begun.ensures)
    ∙ ap (λ b. run_cycle_after b.sealed c.in-Some.window) c.bus-in-Some.ensures.value in
    strikes_some c.args.faults.now c.args.world.now c.in-Some.window c.run_cycle-cycle.result
    c.strike_all-struck.new.world opened cycle_is
    c.strike_all-struck.ensures.tries

pub returns-in-None : goal.returns-in-None
returns-in-None c =
    strikes_none c.args.faults.now c.args.world.now (ap collecting_of (sym c.bus.ensures.value)
    ∙ sym c.collecting.ensures ∙ c.in-None.is)
