use Rattle.std.proofs.Common.{◌≡◌, Option, ap, sym, subst, ◌∙◌}
use Rattle.fr_frame.specs.Fields.{Fields}
use Rattle.fr_interface.specs.InterfaceFields.{state_in}
use Rattle.fr_interface.specs.Sending.{outgoing_in, outgoing_on, frame_by}
use Rattle.fr_interface.specs.State.{State}
use Rattle.fr_interface.proofs.StandingLemmas.{answer-outgoing, answer-frame}
use Rattle.fr_journal.specs.Offers.{frame_offered, IsHandedOut, bytes_of}
use Rattle.fr_interface.proofs.interface.Chi.hand_out.Goals as goal

pub returns-clause-spelled : goal.returns-clause-spelled
returns-clause-spelled g c =
    let s = state_in c.self.inside.state (g.H.History.told c.self.inside.history) in
    let h = c.self.inside.state in
    let window = c.args.window.now in
    let channel = c.args.channel in
    let outgoing : c.args.outgoing.now ≡ outgoing_on h.plan h.transmit window channel =
    c.requires ∙ ap (λ (t : State). outgoing_in t window channel) (sym c.self.view_is) ∙ sym
    (answer-outgoing h s window channel c.self.invariant.history) in
    subst (λ (f : Option Fields). IsHandedOut channel f c.hand_out.new.bytes)
    (ap (frame_by h.params h.plan h.transmit window channel) outgoing
    ∙ answer-frame h s window channel c.self.invariant.history
    ∙ ap (λ (t : State). frame_offered t.params t.plan t.entries window channel) c.self.view_is)
    c.hand_out.ensures.spelled

pub returns-clause-bytes : goal.returns-clause-bytes
returns-clause-bytes g c =
    let s = state_in c.self.inside.state (g.H.History.told c.self.inside.history) in
    let h = c.self.inside.state in
    let window = c.args.window.now in
    let channel = c.args.channel in
    let outgoing : c.args.outgoing.now ≡ outgoing_on h.plan h.transmit window channel =
    c.requires ∙ ap (λ (t : State). outgoing_in t window channel) (sym c.self.view_is) ∙ sym
    (answer-outgoing h s window channel c.self.invariant.history) in
    c.hand_out.ensures.bytes
    ∙ ap (bytes_of channel) (ap (frame_by h.params h.plan h.transmit window channel) outgoing
    ∙ answer-frame h s window channel c.self.invariant.history
    ∙ ap (λ (t : State). frame_offered t.params t.plan t.entries window channel) c.self.view_is)
