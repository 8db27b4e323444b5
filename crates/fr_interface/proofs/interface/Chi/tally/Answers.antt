use Rattle.std.proofs.Common.{ap, ◌∙◌}
use Rattle.fr_interface.specs.InterfaceFields.{state_in}
use Rattle.fr_interface.specs.State.{State, tally_by}
use Rattle.fr_interface.proofs.StandingLemmas.{answer-tally}
use Rattle.fr_interface.proofs.interface.Chi.tally.Goals as goal

pub returns-clause-value : goal.returns-clause-value
returns-clause-value g c = c.tally.ensures.value ∙ answer-tally c.self.inside.state
    (state_in c.self.inside.state (g.H.History.told c.self.inside.history)) c.args.buffer c.self.invariant.history ∙ ap
    (λ (s : State). tally_by s c.args.buffer) c.self.view_is
