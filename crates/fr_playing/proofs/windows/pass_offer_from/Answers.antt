use Rattle.std.proofs.Common.{◌≡◌, ◌∙◌, List, ap, drop, subst}
use Rattle.std.specs.Prelude.{OnOk}
use Rattle.fr_core.specs.declared.event.Event.{Event}
use Rattle.fr_playing.proofs.PassingLemmas.{rest_all}
use Rattle.fr_playing.specs.Moving.{offer_events}
use Rattle.fr_playing.specs.Striking.{Passes}
use Rattle.fr_playing.proofs.windows.pass_offer_from.Goals as goal

pub returns : goal.returns
returns c =
    let all : c.as_slice-all.result.now ≡ offer_events c.args.node = c.as_slice-all.ensures in
    subst (λ (es : List Event). OnOk c.pass_all.result (Passes c.args.world.now es c.pass_all.new.world))
    (rest_all c.args.first c.as_slice-all.result.now ∙ ap (drop c.args.first) all) c.pass_all.ensures
