use Rattle.std.proofs.Common.{◌≡◌, ◌∙◌, Some, ap, sym}
use Rattle.fr_bus.specs.Standing.{bare}
use Rattle.fr_bus.specs.States.{collecting_of}
use Rattle.fr_endless.specs.Taps.{with_taps}
use Rattle.fr_endless.proofs.MovingLemmas.{strikes_open, strikes_nothing}
use Rattle.fr_slots.specs.Windows.{run_cycle}
use Rattle.fr_endless.proofs.striking.strike_open.Goals as goal

pub returns-in-Some : goal.returns-in-Some
returns-in-Some g c =
    let opened : collecting_of (bare c.args.world.now.bus.bus) ≡ Some c.in-Some.window =
    ap (λ h. collecting_of (bare h.bus)) (sym c.bus.ensures) ∙ sym c.in-Some.ensures in
    let cycle_is = c.run_cycle-cycle.ensures ∙ ap (λ n. run_cycle n c.in-Some.window) c.cycles_begun.ensures
    ∙ ap (λ h. run_cycle h.bus.course.begun c.in-Some.window) c.bus-in-Some.ensures in
    strikes_open (with_taps c.args.world.now c.args.taps.now) (with_taps c.strike_all.new.world c.strike_all.new.taps)
    c.args.faults.now c.in-Some.window
    c.run_cycle-cycle.result opened cycle_is c.strike_all.ensures

pub returns-in-None : goal.returns-in-None
returns-in-None g c =
    strikes_nothing (with_taps c.args.world.now c.args.taps.now) c.args.faults.now
    (ap (λ h. collecting_of (bare h.bus)) (sym c.bus.ensures) ∙ sym c.collecting.ensures ∙ c.in-None.is)
