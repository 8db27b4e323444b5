use Rattle.std.proofs.Common.{◌≡◌, [], ◌∷◌, ◌++◌, ap, sym, ◌∙◌}
use Rattle.fr_interface.specs.declared.offers.Outgoing.{Outgoing}
use Rattle.fr_interface.specs.InterfaceFields.{state_in}
use Rattle.fr_interface.specs.Sending.{outgoing_in}
use Rattle.fr_interface.specs.State.{State, with_entry, fetch_entry}
use Rattle.fr_interface.proofs.InterfaceLemmas.{lawful-more, state-more}
use Rattle.fr_interface.proofs.SenderLemmas.{offered-place}
use Rattle.fr_journal.specs.declared.entry.Entry.TheVariants.{Fetch}
use Rattle.fr_journal.specs.Offers.{offered}
use Rattle.fr_slots.specs.declared.channel.Channel.TheVariants.{A, B}
use Rattle.fr_interface.proofs.interface.Chi.push_fetch.Goals as goal

pub invariant_of-self : goal.invariant_of-self
invariant_of-self g c =
    let es = g.H.History.told c.self.inside.history in
    let s = state_in c.self.inside.state es in
    let window = c.args.window.now in
    let offer_a : c.args.a.now.offered ≡ offered s.plan s.entries window A =
    ap (λ (o : Outgoing). o.offered) (c.requires.outgoing_a ∙ ap (λ (t : State). outgoing_in t window A)
    (sym c.self.view_is)) ∙ offered-place s.plan s.entries window A in
    let offer_b : c.args.b.now.offered ≡ offered s.plan s.entries window B =
    ap (λ (o : Outgoing). o.offered) (c.requires.outgoing_b ∙ ap (λ (t : State). outgoing_in t window B)
    (sym c.self.view_is)) ∙ offered-place s.plan s.entries window B in
    lawful-more c.self.inside.state c.fetch.new.self es _ _ _ (fetch_entry s window) c.self.invariant
    (c.push_slot.ensures.entries ∙ (λ i. es ++ Fetch window (offer_a i) (offer_b i) ∷ []))
    c.push_slot.ensures.limits c.fetch.ensures.terms (c.fetch.ensures.history s c.self.invariant.history)

pub returns : goal.returns
returns g c =
    let es = g.H.History.told c.self.inside.history in
    let s = state_in c.self.inside.state es in
    let window = c.args.window.now in
    let offer_a : c.args.a.now.offered ≡ offered s.plan s.entries window A =
    ap (λ (o : Outgoing). o.offered) (c.requires.outgoing_a ∙ ap (λ (t : State). outgoing_in t window A)
    (sym c.self.view_is)) ∙ offered-place s.plan s.entries window A in
    let offer_b : c.args.b.now.offered ≡ offered s.plan s.entries window B =
    ap (λ (o : Outgoing). o.offered) (c.requires.outgoing_b ∙ ap (λ (t : State). outgoing_in t window B)
    (sym c.self.view_is)) ∙ offered-place s.plan s.entries window B in
    sym (state-more c.self.inside.state c.fetch.new.self es _ (fetch_entry s window)
    (c.push_slot.ensures.entries ∙ (λ i. es ++ Fetch window (offer_a i) (offer_b i) ∷ []))
    c.fetch.ensures.terms)
    ∙ ap (λ (t : State). with_entry t (fetch_entry t window)) c.self.view_is
