use Rattle.std.proofs.Common.{sym, ◌∙◌}
use Rattle.fr_playing.proofs.StrikingLemmas.{no_strike}
use Rattle.fr_playing.proofs.striking.strike.Goals as goal

pub returns-else-strikes : goal.returns-else-strikes
returns-else-strikes c = no_strike c.args.cycle c.args.window.now c.args.line.now c.args.world.now
    (sym c.strikes.ensures ∙ c.if-strikes.false)
