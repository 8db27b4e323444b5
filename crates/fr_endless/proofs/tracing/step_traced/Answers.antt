use Rattle.std.proofs.Common.{◌∙◌, sym}
use Rattle.fr_endless.proofs.TraceLemmas.{asked_told}
use Rattle.fr_endless.specs.Taps.{with_taps}
use Rattle.fr_endless.proofs.tracing.step_traced.Goals as goal

pub returns-in-Some : goal.returns-in-Some
returns-in-Some g c =
    asked_told (with_taps c.args.world.now c.args.taps.now)
    (with_taps c.call_traced.new.world c.call_traced.new.taps) c.args.event.now c.in-Some.asked c.call_traced.result
    (sym c.call_in.ensures ∙ c.in-Some.is) c.call_traced.ensures
