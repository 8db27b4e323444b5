use Rattle.std.proofs.Common.{ap, ◌∙◌}
use Rattle.fr_interface.specs.InterfaceFields.{state_in}
use Rattle.fr_interface.specs.State.{State, source_of}
use Rattle.fr_interface.proofs.StandingLemmas.{answer-held}
use Rattle.fr_interface.proofs.interface.Chi.held.Goals as goal

pub returns : goal.returns
returns g c = c.held.ensures ∙ answer-held c.self.inside.state
    (state_in c.self.inside.state (g.H.History.told c.self.inside.history)) c.args.buffer c.self.invariant.history ∙ ap
    (λ (s : State). source_of s c.args.buffer) c.self.view_is
