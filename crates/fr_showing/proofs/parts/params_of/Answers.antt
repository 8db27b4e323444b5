use Rattle.std.proofs.Common.{◌∙◌, List, subst, ◌≡◌, get_or}
use Rattle.fr_interface.specs.State.{State}
use Rattle.fr_showing.proofs.PartLemmas.{params_are}
use Rattle.fr_showing.proofs.parts.params_of.Goals as goal

pub returns : goal.returns
returns c =
    let s = c.index-interfaces-0.result in
    c.params.ensures.value
    ∙ params_are c.args.world.now c.interfaces-interfaces.ensures.headline s
    (subst (λ (l : List State). s ≡ get_or l 0 s) c.interfaces-interfaces.ensures.value c.index-interfaces-0.is)
