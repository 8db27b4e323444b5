use Rattle.std.proofs.Common.{◌≡◌, ◌+◌, cond, List, Some, None, arith, ap, sym, subst, ◌∙◌}
use Rattle.std.specs.Vec.{with_items}
use Rattle.fr_buffers.specs.Transmitting.{Transmitter}
use Rattle.fr_interface.specs.declared.offers.Outgoing.{Outgoing}
use Rattle.fr_interface.specs.StateFields.{standing_in}
use Rattle.fr_interface.specs.Sending.{outgoing_on, after_sender}
use Rattle.fr_interface.specs.Standing.{Standing, IsHistory, Leaves, limited, after_fetch, fetch_refused}
use Rattle.fr_interface.specs.State.{with_entry, fetch_entry}
use Rattle.fr_interface.proofs.KeptLemmas.{written}
use Rattle.fr_interface.proofs.StandingLemmas.{cycles-fit, history-fetch, outgoing-limits}
use Rattle.fr_journal.specs.Entries.{IsOffered}
use Rattle.fr_slots.specs.declared.channel.Channel.TheVariants.{A, B}
use Rattle.fr_slots.specs.Windows.{Opportunity, IsInRange, opens_cycle}
use Rattle.fr_interface.proofs.state.InterfaceState.fetch.Goals as goal

pub begun_with-self-inside-requires : goal.begun_with-self-inside-requires
begun_with-self-inside-requires c =
    omega (arith, cycles-fit (standing_in c.self.inside) c.self.invariant.0 c.self.invariant.1)

pub invariant_of-self : goal.invariant_of-self
invariant_of-self c =
    let h = standing_in c.self.inside in
    let window = c.args.window.now in
    let window_is : c.kept_window-window.result ≡ window = c.kept_window-window.ensures.value in
    let cycles_is : c.begun_with-self-inside.result ≡ h.cycles + cond (opens_cycle window) 1 0 =
    c.begun_with-self-inside.ensures ∙ ap (λ (w : Opportunity). h.cycles + cond (opens_cycle w) 1 0)
    window_is in
    let number_is : c.window.inside.number ≡ window.number =
    ap (λ (w : Opportunity). w.number) (c.window.view_is ∙ window_is) in
    let ranged : IsInRange window = c.kept_window-window.ensures.fits in
    let out_a : c.args.a.now ≡ outgoing_on h.plan h.transmit window A =
    c.requires.outgoing_a ∙ ap (λ (x : Standing). outgoing_on x.plan x.transmit window A) (sym c.self.view_is) in
    let out_b : c.args.b.now ≡ outgoing_on h.plan h.transmit window B =
    c.requires.outgoing_b ∙ ap (λ (x : Standing). outgoing_on x.plan x.transmit window B) (sym c.self.view_is) in
    let g = limited h in
    let lim_a : outgoing_on h.plan h.transmit window A ≡ outgoing_on g.plan g.transmit window A =
    sym (outgoing-limits h.plan h.host_limit h.slot_limit h.transmit window A) in
    let lim_b : outgoing_on h.plan h.transmit window B ≡ outgoing_on g.plan g.transmit window B =
    sym (outgoing-limits h.plan h.host_limit h.slot_limit h.transmit window B) in
    let from_a = (outgoing_on h.plan h.transmit window A).sender in
    let from_b = (outgoing_on h.plan h.transmit window B).sender in
    let after_a : c.send_from.new.buffers ≡ after_sender h.transmit from_a =
    c.send_from.ensures ∙ (λ i. after_sender (c.deref_mut.ensures.value i) (out_a i).sender) in
    let transmit : (with_items (with_items c.self.inside.transmit c.send_from.new.buffers)
    c.send_from-2.new.buffers).items ≡ after_sender (after_sender h.transmit from_a) from_b =
    written c.self.inside.transmit.len c.send_from-2.new.buffers _
    (omega (
      arith,
      c.deref_mut.ensures.len,
      c.deref_mut-2.ensures.len,
      c.send_from.auto.buffers,
      c.send_from-2.auto.buffers,
    ))
    ∙ c.send_from-2.ensures
    ∙ (λ i. after_sender (c.deref_mut-2.ensures.value i) (out_b i).sender)
    ∙ ap (λ (l : List Transmitter). after_sender l from_b) (written c.self.inside.transmit.len c.send_from.new.buffers _
    (omega (arith, c.deref_mut.ensures.len, c.send_from.auto.buffers)) ∙ after_a) in
    let ap_after : after_sender (after_sender h.transmit (outgoing_on g.plan g.transmit window A).sender)
    (outgoing_on g.plan g.transmit window B).sender ≡ (with_items
    (with_items c.self.inside.transmit c.send_from.new.buffers) c.send_from-2.new.buffers).items =
    (λ i. after_sender (after_sender h.transmit (sym lim_a i).sender) (sym lim_b i).sender) ∙ sym transmit in
    let accepted : fetch_refused h window ≡ None = ap (λ (x : Standing). fetch_refused x window) c.self.view_is ∙
    c.requires.accepted in (
      with_entry c.self.invariant.0 (fetch_entry c.self.invariant.0 window),
      subst (λ (x : Standing). Leaves x (with_entry c.self.invariant.0 (fetch_entry c.self.invariant.0 window)))
          (λ i. record (after_fetch g window (sym lim_a i).sender (sym lim_b i).sender) {
            cycles = sym cycles_is i;
            opening = record { window = Some (sym window_is i); last = Some (sym number_is i) };
            transmit =
                (ap_after i);
          })
          (history-fetch h c.self.invariant.0 window c.self.invariant.1 ranged accepted
          (subst (λ (o : Outgoing). IsOffered o.offered) (out_a ∙ lim_a) c.requires.fits_a)
          (subst (λ (o : Outgoing). IsOffered o.offered) (out_b ∙ lim_b) c.requires.fits_b)),
    )

pub returns-clause-history : goal.returns-clause-history
returns-clause-history c = λ s is.
    let h = standing_in c.self.inside in
    let window = c.args.window.now in
    let window_is : c.kept_window-window.result ≡ window = c.kept_window-window.ensures.value in
    let cycles_is : c.begun_with-self-inside.result ≡ h.cycles + cond (opens_cycle window) 1 0 =
    c.begun_with-self-inside.ensures ∙ ap (λ (w : Opportunity). h.cycles + cond (opens_cycle w) 1 0)
    window_is in
    let number_is : c.window.inside.number ≡ window.number =
    ap (λ (w : Opportunity). w.number) (c.window.view_is ∙ window_is) in
    let ranged : IsInRange window = c.kept_window-window.ensures.fits in
    let out_a : c.args.a.now ≡ outgoing_on h.plan h.transmit window A =
    c.requires.outgoing_a ∙ ap (λ (x : Standing). outgoing_on x.plan x.transmit window A) (sym c.self.view_is) in
    let out_b : c.args.b.now ≡ outgoing_on h.plan h.transmit window B =
    c.requires.outgoing_b ∙ ap (λ (x : Standing). outgoing_on x.plan x.transmit window B) (sym c.self.view_is) in
    let g = limited h in
    let lim_a : outgoing_on h.plan h.transmit window A ≡ outgoing_on g.plan g.transmit window A =
    sym (outgoing-limits h.plan h.host_limit h.slot_limit h.transmit window A) in
    let lim_b : outgoing_on h.plan h.transmit window B ≡ outgoing_on g.plan g.transmit window B =
    sym (outgoing-limits h.plan h.host_limit h.slot_limit h.transmit window B) in
    let from_a = (outgoing_on h.plan h.transmit window A).sender in
    let from_b = (outgoing_on h.plan h.transmit window B).sender in
    let after_a : c.send_from.new.buffers ≡ after_sender h.transmit from_a =
    c.send_from.ensures ∙ (λ i. after_sender (c.deref_mut.ensures.value i) (out_a i).sender) in
    let transmit : (with_items (with_items c.self.inside.transmit c.send_from.new.buffers)
    c.send_from-2.new.buffers).items ≡ after_sender (after_sender h.transmit from_a) from_b =
    written c.self.inside.transmit.len c.send_from-2.new.buffers _
    (omega (
      arith,
      c.deref_mut.ensures.len,
      c.deref_mut-2.ensures.len,
      c.send_from.auto.buffers,
      c.send_from-2.auto.buffers,
    ))
    ∙ c.send_from-2.ensures
    ∙ (λ i. after_sender (c.deref_mut-2.ensures.value i) (out_b i).sender)
    ∙ ap (λ (l : List Transmitter). after_sender l from_b) (written c.self.inside.transmit.len c.send_from.new.buffers _
    (omega (arith, c.deref_mut.ensures.len, c.send_from.auto.buffers)) ∙ after_a) in
    let ap_after : after_sender (after_sender h.transmit (outgoing_on g.plan g.transmit window A).sender)
    (outgoing_on g.plan g.transmit window B).sender ≡ (with_items
    (with_items c.self.inside.transmit c.send_from.new.buffers) c.send_from-2.new.buffers).items =
    (λ i. after_sender (after_sender h.transmit (sym lim_a i).sender) (sym lim_b i).sender) ∙ sym transmit in
    let accepted : fetch_refused h window ≡ None = ap (λ (x : Standing). fetch_refused x window) c.self.view_is ∙
    c.requires.accepted in
    subst (λ (x : Standing). Leaves x (with_entry s (fetch_entry s window)))
    (λ i. record (after_fetch g window (sym lim_a i).sender (sym lim_b i).sender) {
      cycles = sym cycles_is i;
      opening = record { window = Some (sym window_is i); last = Some (sym number_is i) };
      transmit =
          (ap_after i);
    })
    (history-fetch h s window (subst (λ (x : Standing). IsHistory x s) (sym c.self.view_is) is) ranged accepted
    (subst (λ (o : Outgoing). IsOffered o.offered) (out_a ∙ lim_a) c.requires.fits_a)
    (subst (λ (o : Outgoing). IsOffered o.offered) (out_b ∙ lim_b) c.requires.fits_b))
