use Rattle.std.proofs.Common.{◌≡◌, ℕ, List, [], ◌∷◌, ◌++◌, Option, ap, sym, ◌∙◌}
use Rattle.fr_interface.specs.InterfaceFields.{state_in}
use Rattle.fr_interface.specs.State.{State, with_entry, withdraw_entry}
use Rattle.fr_interface.proofs.InterfaceLemmas.{lawful-more, state-more}
use Rattle.fr_interface.proofs.StandingLemmas.{answer-pending}
use Rattle.fr_journal.specs.declared.entry.Entry.TheVariants.{Withdraw}
use Rattle.fr_journal.specs.Fate.{pending_commit}
use Rattle.fr_journal.specs.Forms.{Entry}
use Rattle.fr_interface.proofs.interface.Chi.withdraw.Goals as goal

pub invariant_of-self-2 : goal.invariant_of-self-2
invariant_of-self-2 g c =
    let es = g.H.History.told c.self.inside.history in
    let s = state_in c.self.inside.state es in
    let of_is : c.in_ok-of.of ≡ pending_commit c.args.buffer s.entries =
    answer-pending c.self.inside.state s c.args.task c.args.buffer c.in_ok-of.of c.self.invariant.history
    c.in_ok-of.ensures.refusal c.in_ok-of.ensures.answer in
    let pushed : Option ℕ → List Entry = λ of. es ++ Withdraw c.args.task c.args.buffer of ∷ [] in
    lawful-more c.self.inside.state c.withdraw.new.self es _ _ _
    (withdraw_entry s c.args.task c.args.buffer) c.self.invariant
    (c.push_host.ensures.entries ∙ ap pushed of_is) c.push_host.ensures.limits c.in_ok-of.ensures.terms
    (c.in_ok-of.ensures.history s c.self.invariant.history)

pub returns-clause-answer : goal.returns-clause-answer
returns-clause-answer g c =
    answer-pending c.self.inside.state (state_in c.self.inside.state (g.H.History.told c.self.inside.history))
    c.args.task c.args.buffer c.in_ok-of.of
    c.self.invariant.history c.in_ok-of.ensures.refusal c.in_ok-of.ensures.answer
    ∙ ap (λ (s : State). pending_commit c.args.buffer s.entries) c.self.view_is

pub returns-clause-accepted : goal.returns-clause-accepted
returns-clause-accepted g c =
    let es = g.H.History.told c.self.inside.history in
    let s = state_in c.self.inside.state es in
    let of_is : c.in_ok-of.of ≡ pending_commit c.args.buffer s.entries =
    answer-pending c.self.inside.state s c.args.task c.args.buffer c.in_ok-of.of c.self.invariant.history
    c.in_ok-of.ensures.refusal c.in_ok-of.ensures.answer in
    let pushed : Option ℕ → List Entry = λ of. es ++ Withdraw c.args.task c.args.buffer of ∷ [] in
    sym (state-more c.self.inside.state c.withdraw.new.self es _ (withdraw_entry s c.args.task c.args.buffer)
    (c.push_host.ensures.entries ∙ ap pushed of_is) c.in_ok-of.ensures.terms)
    ∙ ap (λ (t : State). with_entry t (withdraw_entry t c.args.task c.args.buffer)) c.self.view_is
