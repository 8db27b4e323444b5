use Rattle.std.proofs.Common.{◌≡◌, ◌∙◌, false, ap, sym}
use Rattle.fr_playing.proofs.PlayLemmas.{within_none, within_more}
use Rattle.fr_playing.specs.Moving.{is_at_cycle, whole_window}
use Rattle.fr_playing.proofs.windows.play_windows.Goals as goal

pub loop-count-init : goal.loop-count-init
loop-count-init c = within_none c.args.cycle c.args.faults.now (whole_window c.args.nodes) c.args.world.now

pub loop-count-preserved : goal.loop-count-preserved
loop-count-preserved c =
    let within : is_at_cycle c.play_window.new.world.bus.opened ≡ false =
    ap (λ b. is_at_cycle b.opened) (sym c.bus.ensures.value)
    ∙ ap is_at_cycle (sym c.window.ensures) ∙ sym c.is_at_cycle.ensures ∙ c.if-is_at_cycle.false in
    within_more c.args.cycle c.args.faults.now (whole_window c.args.nodes) c.loop-count.count c.args.world.now
    c.loop-count.world c.play_window.new.world
    c.loop-count.invariant c.in_ok-play_window.ensures within
