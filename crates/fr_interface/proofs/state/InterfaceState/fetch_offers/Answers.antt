use Rattle.std.proofs.Common.{ap, ◌∙◌}
use Rattle.fr_interface.specs.Sending.{frame_by}
use Rattle.fr_interface.proofs.StandingLemmas.{answer-frame}
use Rattle.fr_journal.specs.Offers.{bytes_of}
use Rattle.fr_slots.specs.declared.channel.Channel.TheVariants.{A, B}
use Rattle.fr_interface.proofs.state.InterfaceState.fetch_offers.Goals as goal

pub returns-clause-offer : goal.returns-clause-offer
returns-clause-offer c s is =
    let h = c.args.self.now in
    let w = c.args.window.now in
    λ i. record {
      a = (c.hand_out.ensures.bytes
          ∙ ap (λ o. bytes_of A (frame_by h.params h.plan h.transmit w A o)) c.requires.outgoing_a
          ∙ ap (bytes_of A) (answer-frame h s w A is)) i;
      b = (c.hand_out-2.ensures.bytes
          ∙ ap (λ o. bytes_of B (frame_by h.params h.plan h.transmit w B o)) c.requires.outgoing_b
          ∙ ap (bytes_of B) (answer-frame h s w B is)) i;
    }
