use Rattle.std.proofs.Common.{ap, ◌∙◌}
use Rattle.fr_interface.specs.declared.offers.Outgoing.{Outgoing}
use Rattle.fr_interface.proofs.StandingLemmas.{answer-offered}
use Rattle.fr_interface.proofs.state.InterfaceState.offered.Goals as goal

pub returns-clause-history : goal.returns-clause-history
returns-clause-history c s is =
    ap (λ (o : Outgoing). o.offered) c.outgoing_on.ensures.value
    ∙ answer-offered c.args.self.now s c.args.window.now c.args.channel is
