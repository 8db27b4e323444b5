use Rattle.std.proofs.Common.{◌≡◌, ◌∙◌, false, ap, sym}
use Rattle.fr_playing.proofs.MovingLemmas.{within_none, within_more}
use Rattle.fr_playing.specs.Moving.{is_at_cycle}
use Rattle.fr_playing.proofs.moving.finish_cycle.Goals as goal

pub loop-count-init : goal.loop-count-init
loop-count-init c = within_none c.args.faults.now c.args.events.now c.args.world.now

pub loop-count-preserved : goal.loop-count-preserved
loop-count-preserved c =
    let within : is_at_cycle c.finish_window.new.world.bus.opened ≡ false =
    ap (λ b. is_at_cycle b.opened) (sym c.bus.ensures.value)
    ∙ ap is_at_cycle (sym c.window.ensures) ∙ sym c.is_at_cycle.ensures ∙ c.if-is_at_cycle.false in
    within_more c.args.faults.now c.args.events.now c.loop-count.count c.finish_window.result c.args.world.now
    c.loop-count.world c.finish_window.new.world
    c.loop-count.invariant c.finish_window.ensures c.in-None.is within
