use Rattle.std.proofs.Common.{sym, subst, ◌∙◌}
use Rattle.fr_core.specs.declared.event.Event.TheVariants.{Inject}
use Rattle.fr_core.specs.declared.event.Reply.TheVariants.{Done}
use Rattle.fr_core.specs.Steps.{answered}
use Rattle.fr_core.specs.Steps.{Applies}
use Rattle.fr_endless.specs.Taps.{ToldAlike, with_taps}
use Rattle.fr_endless.proofs.MovingLemmas.{strike_one, strike_none}
use Rattle.fr_endless.proofs.striking.strike.Goals as goal

pub returns-then-strikes : goal.returns-then-strikes
returns-then-strikes g c =
    strike_one c.args.cycle c.args.window.now (with_taps c.args.world.now c.args.taps.now)
    (with_taps c.apply_told-struck.new.world c.apply_told-struck.new.taps) c.args.line.now
    (answered Done c.apply_told-struck.result) (sym c.strikes.ensures ∙ c.if-strikes.true)
    (subst (λ fault. ToldAlike (with_taps c.args.world.now c.args.taps.now)
    (λ w v. Applies w (Inject fault) c.apply_told-struck.result v)
    (with_taps c.apply_told-struck.new.world c.apply_told-struck.new.taps)) c.duplicate.ensures
    c.apply_told-struck.ensures)

pub returns-else-strikes : goal.returns-else-strikes
returns-else-strikes g c =
    strike_none c.args.cycle c.args.window.now (with_taps c.args.world.now c.args.taps.now) c.args.line.now
    (sym c.strikes.ensures ∙ c.if-strikes.false)
