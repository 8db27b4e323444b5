use Rattle.std.proofs.Common.{◌≡◌, ◌∙◌, true, false, ap, sym, rules}
use Rattle.fr_endless.specs.Taps.{with_taps}
use Rattle.fr_endless.proofs.MovingLemmas.{within_start, within_next, cycle_hindered, cycle_ended, cycle_full}
use Rattle.fr_playing.specs.Moving.{is_at_cycle}
use Rattle.fr_endless.proofs.moving.finish_cycle.Goals as goal

pub loop-count-init : goal.loop-count-init
loop-count-init g c = within_start c.args.faults.now c.args.events.now (with_taps c.args.world.now c.args.taps.now)

pub loop-count-preserved : goal.loop-count-preserved
loop-count-preserved g c =
    let within : is_at_cycle c.finish_window.new.world.bus.bus.opened ≡ false =
    ap (λ b. is_at_cycle b.bus.opened) (sym c.bus.ensures)
    ∙ ap is_at_cycle (sym c.window.ensures) ∙ sym c.is_at_cycle.ensures ∙ c.if-is_at_cycle.false in
    within_next c.args.faults.now c.args.events.now (with_taps c.args.world.now c.args.taps.now)
    (with_taps c.loop-count.world c.loop-count.taps) (with_taps c.finish_window.new.world c.finish_window.new.taps)
    c.loop-count.count c.loop-count.invariant c.finish_window.result c.finish_window.ensures c.in-None.is within

pub returns-in-Some : goal.returns-in-Some
returns-in-Some g c =
    cycle_hindered c.args.faults.now c.args.events.now (with_taps c.args.world.now c.args.taps.now)
    (with_taps c.loop-count.world c.loop-count.taps) (with_taps c.finish_window.new.world c.finish_window.new.taps)
    c.loop-count.count c.loop-count.invariant c.in-Some.error c.in-Some.ensures

pub returns-then-is_at_cycle : goal.returns-then-is_at_cycle
returns-then-is_at_cycle g c =
    let at : is_at_cycle c.finish_window.new.world.bus.bus.opened ≡ true =
    ap (λ b. is_at_cycle b.bus.opened) (sym c.bus.ensures)
    ∙ ap is_at_cycle (sym c.window.ensures) ∙ sym c.is_at_cycle.ensures ∙ c.if-is_at_cycle.true in
    cycle_ended c.args.faults.now c.args.events.now (with_taps c.args.world.now c.args.taps.now)
    (with_taps c.loop-count.world c.loop-count.taps) (with_taps c.finish_window.new.world c.finish_window.new.taps)
    c.loop-count.count c.loop-count.invariant c.finish_window.result c.finish_window.ensures c.in-None.is at

pub returns : goal.returns
returns g c =
    cycle_full c.args.faults.now c.args.events.now (with_taps c.args.world.now c.args.taps.now)
    (with_taps c.loop-count.world c.loop-count.taps) c.loop-count.count
    c.loop-count.invariant (search rules)
