use Rattle.std.proofs.Common.{◌≡◌, ℕ, ◌<◌, ◌^◌, List, Option, Some, arith, ap, sym, subst, ◌∙◌}
use Rattle.std.specs.Prelude.{IfSome}
use Rattle.std.specs.Vec.{with_items}
use Rattle.fr_buffers.specs.Transmitting.{Transmitter, after_withdraw}
use Rattle.fr_interface.specs.StateFields.{standing_in}
use Rattle.fr_interface.specs.Known.{change_at}
use Rattle.fr_interface.specs.Sending.{pending_at}
use Rattle.fr_interface.specs.Standing.{Standing, IsHistory, after_taking_back}
use Rattle.fr_interface.specs.State.{with_entry, withdraw_entry}
use Rattle.fr_interface.proofs.KeptLemmas.{written}
use Rattle.fr_interface.proofs.StandingLemmas.{history-withdraw, pending-there}
use Rattle.fr_journal.specs.Fate.{pending_commit}
use Rattle.fr_slots.specs.Plans.{buffer_at}
use Rattle.fr_interface.proofs.state.InterfaceState.withdraw.Goals as goal

pub invariant_of-self : goal.invariant_of-self
invariant_of-self c =
    let h = standing_in c.self.inside in
    let line = c.in-Some.line in
    let there : buffer_at h.plan c.args.buffer ≡ Some line = sym c.buffer.ensures ∙ c.in-Some.is in
    let found : pending_at c.deref_mut.result.now c.args.buffer
    ≡ pending_commit c.args.buffer c.self.invariant.0.entries =
    ap (λ (l : List Transmitter). pending_at l c.args.buffer) c.deref_mut.ensures.value
    ∙ pending-there h c.self.invariant.0 c.args.buffer line c.self.invariant.1 there in
    let fits : IfSome (pending_commit c.args.buffer c.self.invariant.0.entries) (λ n. n < 2 ^ 32) =
    subst (λ (o : Option ℕ). IfSome o (λ n. n < 2 ^ 32)) (c.withdraw_from-of.ensures.answer ∙ found)
    c.withdraw_from-of.ensures.fits in
    let transmit : (with_items c.self.inside.transmit c.withdraw_from-of.new.buffers).items
    ≡ change_at after_withdraw h.transmit c.args.buffer =
    written c.self.inside.transmit.len c.withdraw_from-of.new.buffers _
    (omega (arith, c.deref_mut.ensures.len, c.withdraw_from-of.auto.buffers))
    ∙ c.withdraw_from-of.ensures.buffers
    ∙ (λ i. change_at after_withdraw (c.deref_mut.ensures.value i) c.args.buffer) in (
      with_entry c.self.invariant.0 (withdraw_entry c.self.invariant.0 c.args.task c.args.buffer),
      subst (λ (x : Standing). IsHistory x (with_entry c.self.invariant.0
          (withdraw_entry c.self.invariant.0 c.args.task c.args.buffer)))
          (λ i. record (after_taking_back h c.args.buffer) { transmit = sym transmit i })
          (history-withdraw h c.self.invariant.0 c.args.task c.args.buffer line c.self.invariant.1
          (c.number.ensures.fits, c.ranges.buffer.fits, fits)
          (omega (arith, c.number.ensures.value, c.tasks.ensures.value))
          there
          (sym c.is_receive.ensures ∙ c.if-is_receive.false)
          (omega arith)),
    )

pub returns-clause-history : goal.returns-clause-history
returns-clause-history c = λ s is.
    let h = standing_in c.self.inside in
    let line = c.in-Some.line in
    let there : buffer_at h.plan c.args.buffer ≡ Some line = sym c.buffer.ensures ∙ c.in-Some.is in
    let found : pending_at c.deref_mut.result.now c.args.buffer ≡ pending_commit c.args.buffer s.entries =
    ap (λ (l : List Transmitter). pending_at l c.args.buffer) c.deref_mut.ensures.value
    ∙ pending-there h s c.args.buffer line (subst (λ (x : Standing). IsHistory x s) (sym c.self.view_is) is) there
    in
    let fits : IfSome (pending_commit c.args.buffer s.entries) (λ n. n < 2 ^ 32) =
    subst (λ (o : Option ℕ). IfSome o (λ n. n < 2 ^ 32)) (c.withdraw_from-of.ensures.answer ∙ found)
    c.withdraw_from-of.ensures.fits in
    let transmit : (with_items c.self.inside.transmit c.withdraw_from-of.new.buffers).items
    ≡ change_at after_withdraw h.transmit c.args.buffer =
    written c.self.inside.transmit.len c.withdraw_from-of.new.buffers _
    (omega (arith, c.deref_mut.ensures.len, c.withdraw_from-of.auto.buffers))
    ∙ c.withdraw_from-of.ensures.buffers
    ∙ (λ i. change_at after_withdraw (c.deref_mut.ensures.value i) c.args.buffer) in
    subst (λ (x : Standing). IsHistory x (with_entry s (withdraw_entry s c.args.task c.args.buffer)))
    (λ i. record (after_taking_back h c.args.buffer) { transmit = sym transmit i })
    (history-withdraw h s c.args.task c.args.buffer line (subst (λ (x : Standing). IsHistory x s)
    (sym c.self.view_is) is)
    (c.number.ensures.fits, c.ranges.buffer.fits, fits)
    (omega (arith, c.number.ensures.value, c.tasks.ensures.value))
    there
    (sym c.is_receive.ensures ∙ c.if-is_receive.false)
    (omega arith))
