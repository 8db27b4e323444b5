use Rattle.std.proofs.Common.{◌≡◌, length, ap, sym, ◌∙◌}
use Rattle.fr_interface.specs.InterfaceFields.{state_in}
use Rattle.fr_interface.specs.Standing.{entries_before}
use Rattle.fr_interface.specs.State.{State}
use Rattle.fr_interface.proofs.InterfaceLemmas.{lawful-more}
use Rattle.fr_interface.proofs.StandingLemmas.{entries-length}
use Rattle.fr_journal.specs.declared.entry.Entry.TheVariants.{Commit}
use Rattle.fr_interface.proofs.interface.Chi.commit.Goals as goal

pub invariant_of-self-2 : goal.invariant_of-self-2
invariant_of-self-2 g c =
    let es = g.H.History.told c.self.inside.history in
    lawful-more c.self.inside.state c.commit.new.self es _ _ _
    (Commit c.args.task c.args.buffer c.args.payload.now) c.self.invariant c.push_commit.ensures.entries
    c.push_commit.ensures.limits c.in_ok-entry.ensures.terms
    (c.in_ok-entry.ensures.history (state_in c.self.inside.state es) c.self.invariant.history)

pub returns-clause-receipt : goal.returns-clause-receipt
returns-clause-receipt g c =
    let es = g.H.History.told c.self.inside.history in
    let number : c.in_ok-entry.entry ≡ length c.args.self.now.entries =
    c.in_ok-entry.ensures.entry ∙ ap entries_before (sym c.self.invariant.history.leaves) ∙ entries-length
    (state_in c.self.inside.state es) ∙ ap (λ (s : State). length s.entries) c.self.view_is in
    λ i. record { task = c.args.task; entry = number i }
