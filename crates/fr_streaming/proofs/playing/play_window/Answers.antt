use Rattle.std.proofs.Common.{◌≡◌, ◌∙◌, Some, ap, sym}
use Rattle.fr_streaming.proofs.AlikeLemmas.{window_played}
use Rattle.fr_streaming.proofs.playing.play_window.Goals as goal

pub returns : goal.returns
returns c =
    let opened : c.args.world.now.bus.bus.opened ≡ Some c.in-Some.window =
    ap (λ b. b.bus.opened) (sym c.bus.ensures) ∙ sym c.window.ensures ∙ c.in-Some.is in
    window_played c.pass.result c.args.cycle c.args.faults.now c.args.due.now c.in-Some.window c.args.world.now
    c.strike_all.new.world c.pass_all.new.world c.pass.new.world opened c.in_ok-strike_all.ensures
    c.in_ok-pass_all.ensures c.pass.ensures
