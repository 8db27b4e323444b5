use Rattle.std.proofs.Common.{◌≡◌, ◌≤◌, ◌++◌, ◌∙◌, List, arith, ap, sym, subst, length, length-append, take}
use Rattle.std.specs.Prelude.{slice_get}
use Rattle.fr_core.specs.declared.event.Event.{Event}
use Rattle.fr_core.specs.declared.front.Front.{Front}
use Rattle.fr_core.proofs.FrontLemmas.{take_front}
use Rattle.fr_endless.specs.Fronts.{events_of}
use Rattle.fr_live.specs.LiveSteps.{AcceptsAlike, RefusesAlike}
use Rattle.fr_endless.proofs.world.EndlessWorld.pass_front.Goals as goal

pub returns-clause-few : goal.returns-clause-few
returns-clause-few c =
    let rest = c.front_of-front.ensures.first.0 in
    let all : length c.args.events.now ≡ length (events_of c.front_of-front.result ++ rest) = ap length
    c.front_of-front.ensures.first.1 in
    omega (arith, c.pass.ensures.few, all, length-append (events_of c.front_of-front.result) rest)

pub returns-clause-accepts : goal.returns-clause-accepts
returns-clause-accepts c =
    subst (λ (es : List Event). AcceptsAlike c.args.self.now es c.pass.new.self)
    (sym (take_front c.pass.result (events_of c.front_of-front.result) c.front_of-front.ensures.first.0
    c.pass.ensures.few)
    ∙ ap (take c.pass.result) (sym c.front_of-front.ensures.first.1)) c.pass.ensures.accepts

pub returns-clause-refuses : goal.returns-clause-refuses
returns-clause-refuses c =
    subst (λ (f : Front). RefusesAlike c.pass.new.self (slice_get (events_of f) c.pass.result))
    c.front_of-front.ensures.value c.pass.ensures.refuses

pub returns-clause-within : goal.returns-clause-within
returns-clause-within c =
    subst (λ (f : Front). c.pass.result ≤ length (events_of f)) c.front_of-front.ensures.value c.pass.ensures.few
