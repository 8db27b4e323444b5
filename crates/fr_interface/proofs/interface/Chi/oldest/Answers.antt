use Rattle.std.proofs.Common.{ap, ◌∙◌}
use Rattle.fr_interface.specs.InterfaceFields.{state_in}
use Rattle.fr_interface.specs.State.{oldest_of}
use Rattle.fr_interface.proofs.StandingLemmas.{oldest-there}
use Rattle.fr_interface.proofs.interface.Chi.oldest.Goals as goal

pub returns : goal.returns
returns g c =
    let s = state_in c.self.inside.state (g.H.History.told c.self.inside.history) in
    c.oldest.ensures ∙ oldest-there c.self.inside.state s c.self.invariant.history ∙ ap oldest_of c.self.view_is
