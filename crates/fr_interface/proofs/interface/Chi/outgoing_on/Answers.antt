use Rattle.std.proofs.Common.{ap, ◌∙◌}
use Rattle.fr_interface.specs.declared.offers.Outgoing.{Outgoing}
use Rattle.fr_interface.specs.InterfaceFields.{state_in}
use Rattle.fr_interface.specs.State.{State}
use Rattle.fr_interface.proofs.SenderLemmas.{offered-place}
use Rattle.fr_interface.proofs.StandingLemmas.{answer-outgoing}
use Rattle.fr_journal.specs.Offers.{offered}
use Rattle.fr_interface.proofs.interface.Chi.outgoing_on.Goals as goal

pub returns-clause-offered : goal.returns-clause-offered
returns-clause-offered g c =
    let s = state_in c.self.inside.state (g.H.History.told c.self.inside.history) in
    let window = c.args.window.now in
    let channel = c.args.channel in
    ap (λ (o : Outgoing). o.offered) (c.outgoing_on.ensures.value
    ∙ answer-outgoing c.self.inside.state s window channel c.self.invariant.history)
    ∙ offered-place s.plan s.entries window channel
    ∙ ap (λ (t : State). offered t.plan t.entries window channel) c.self.view_is
