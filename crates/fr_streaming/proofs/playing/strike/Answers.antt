use Rattle.std.proofs.Common.{◌∷◌, ◌∙◌, [], sym, subst}
use Rattle.std.specs.Prelude.{OnOk}
use Rattle.fr_core.specs.declared.event.Event.TheVariants.{Inject}
use Rattle.fr_endless.specs.Alike.{Alike}
use Rattle.fr_playing.specs.Striking.{Passes}
use Rattle.fr_streaming.proofs.AlikeLemmas.{struck_none, struck_one}
use Rattle.fr_streaming.proofs.playing.strike.Goals as goal

pub returns-then-strikes : goal.returns-then-strikes
returns-then-strikes c =
    struck_one c.args.cycle c.args.window.now c.pass.result c.args.world.now c.pass.new.world c.args.line.now
    (sym c.strikes.ensures ∙ c.if-strikes.true)
    (subst (λ fault. OnOk c.pass.result
    (Alike c.args.world.now (λ w v. Passes w (Inject fault ∷ []) v) c.pass.new.world)) c.duplicate.ensures
    c.pass.ensures)

pub returns-else-strikes : goal.returns-else-strikes
returns-else-strikes c =
    struck_none c.args.cycle c.args.window.now c.args.world.now c.args.line.now
    (sym c.strikes.ensures ∙ c.if-strikes.false)
