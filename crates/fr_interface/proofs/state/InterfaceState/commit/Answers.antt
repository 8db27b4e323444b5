use Rattle.std.proofs.Common.{◌≡◌, ◌+◌, ◌*◌, ◌<◌, ◌^◌, List, length, arith, ap, sym, subst, ◌∙◌}
use Rattle.std.specs.Prelude.{IfSome, slice_get}
use Rattle.fr_buffers.specs.Transmitting.{Transmitter, with_commit}
use Rattle.fr_interface.specs.StateFields.{standing_in}
use Rattle.fr_interface.specs.Known.{change_at}
use Rattle.fr_interface.specs.Standing.{Standing, IsHistory, entries_before, after_commit}
use Rattle.fr_interface.specs.State.{with_entry}
use Rattle.fr_interface.proofs.KeptLemmas.{written}
use Rattle.fr_interface.proofs.StandingLemmas.{history-commit, commit-fits}
use Rattle.fr_interface.proofs.TestLemmas.{words_from_test}
use Rattle.fr_journal.specs.declared.entry.Entry.TheVariants.{Commit}
use Rattle.fr_slots.specs.Faults.{words_of}
use Rattle.fr_interface.proofs.state.InterfaceState.commit.Goals as goal

pub commit_to-requires-clause-there : goal.commit_to-requires-clause-there
commit_to-requires-clause-there c =
    subst (λ (l : List Transmitter). c.args.buffer < length l) (sym c.deref_mut.ensures.value)
    (commit-fits (standing_in c.self.inside) c.self.invariant.0 c.args.buffer c.in-Some.line c.self.invariant.1
    (sym c.buffer.ensures ∙ c.in-Some.is)).0

pub commit_to-requires-clause-few : goal.commit_to-requires-clause-few
commit_to-requires-clause-few c =
    subst (λ (l : List Transmitter). IfSome (slice_get l c.args.buffer) (λ b. b.tally.committed + 1 < 2 ^ 32))
    (sym c.deref_mut.ensures.value)
    (commit-fits (standing_in c.self.inside) c.self.invariant.0 c.args.buffer c.in-Some.line c.self.invariant.1
    (sym c.buffer.ensures ∙ c.in-Some.is)).1

pub invariant_of-self : goal.invariant_of-self
invariant_of-self c =
    let h = standing_in c.self.inside in
    let line = c.in-Some.line in
    let payload = c.args.payload.now in
    let kept : c.kept_payload-payload.result.now ≡ payload = c.kept_payload-payload.ensures.value in
    let entry : c.entries-entry.result ≡ entries_before h = c.entries-entry.ensures.value ∙ ap entries_before
    (sym c.self.view_is) in
    let transmit : (Rattle.std.specs.Vec.with_items c.self.inside.transmit c.commit_to.new.buffers).items ≡
    (after_commit h c.args.buffer payload).transmit =
    written c.self.inside.transmit.len c.commit_to.new.buffers _
    (omega (arith, c.deref_mut.ensures.len, c.commit_to.auto.buffers))
    ∙ c.commit_to.ensures
    ∙ (λ i. change_at (λ b. with_commit b (record { entry = entry i; payload = kept i }))
    (c.deref_mut.ensures.value i) c.args.buffer) in
    let words : length payload ≡ 2 * words_of h.params line =
    words_from_test h.params line payload (sym c.has_words.ensures ∙ c.if-not-has_words.false) in (
      with_entry c.self.invariant.0 (Commit c.args.task c.args.buffer payload),
      subst (λ (x : Standing). IsHistory x (with_entry c.self.invariant.0 (Commit c.args.task c.args.buffer payload)))
          (λ i. record (after_commit h c.args.buffer payload) { transmit = sym transmit i })
          (history-commit h c.self.invariant.0 c.args.task c.args.buffer payload line c.self.invariant.1 (
            c.number.ensures.fits,
            c.ranges.buffer.fits,
            c.kept_payload-payload.ensures.is_payload,
            c.kept_payload-payload.ensures.bytes,
          )
          (omega (arith, c.number.ensures.value, c.tasks.ensures.value))
          (sym c.buffer.ensures ∙ c.in-Some.is)
          (sym c.is_receive.ensures ∙ c.if-is_receive.false)
          words
          (omega arith)),
    )

pub returns-clause-history : goal.returns-clause-history
returns-clause-history c = λ s is.
    let h = standing_in c.self.inside in
    let line = c.in-Some.line in
    let payload = c.args.payload.now in
    let kept : c.kept_payload-payload.result.now ≡ payload = c.kept_payload-payload.ensures.value in
    let entry : c.entries-entry.result ≡ entries_before h = c.entries-entry.ensures.value ∙ ap entries_before
    (sym c.self.view_is) in
    let transmit : (Rattle.std.specs.Vec.with_items c.self.inside.transmit c.commit_to.new.buffers).items ≡
    (after_commit h c.args.buffer payload).transmit =
    written c.self.inside.transmit.len c.commit_to.new.buffers _
    (omega (arith, c.deref_mut.ensures.len, c.commit_to.auto.buffers))
    ∙ c.commit_to.ensures
    ∙ (λ i. change_at (λ b. with_commit b (record { entry = entry i; payload = kept i }))
    (c.deref_mut.ensures.value i) c.args.buffer) in
    let words : length payload ≡ 2 * words_of h.params line =
    words_from_test h.params line payload (sym c.has_words.ensures ∙ c.if-not-has_words.false) in
    subst (λ (x : Standing). IsHistory x (with_entry s (Commit c.args.task c.args.buffer payload)))
    (λ i. record (after_commit h c.args.buffer payload) { transmit = sym transmit i })
    (history-commit h s c.args.task c.args.buffer payload line
    (subst (λ (x : Standing). IsHistory x s) (sym c.self.view_is) is) (
      c.number.ensures.fits,
      c.ranges.buffer.fits,
      c.kept_payload-payload.ensures.is_payload,
      c.kept_payload-payload.ensures.bytes,
    )
    (omega (arith, c.number.ensures.value, c.tasks.ensures.value))
    (sym c.buffer.ensures ∙ c.in-Some.is)
    (sym c.is_receive.ensures ∙ c.if-is_receive.false)
    words
    (omega arith))
