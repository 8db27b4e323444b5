use Rattle.std.proofs.Common.{◌≡◌, ℕ, length, ap, sym, ◌∙◌}
use Rattle.fr_interface.specs.Calls.{call_answer}
use Rattle.fr_interface.specs.declared.call.Answer.TheVariants.{Committed, Withdrawn}
use Rattle.fr_interface.specs.Standing.{entries_before}
use Rattle.fr_interface.proofs.StandingLemmas.{entries-length, answer-pending}
use Rattle.fr_interface.proofs.state.InterfaceState.call.Goals as goal

pub returns-in_ok-entry-in-Commit-clause-answer : goal.returns-in_ok-entry-in-Commit-clause-answer
returns-in_ok-entry-in-Commit-clause-answer c s is =
    let number : c.in_ok-entry-in-Commit.entry ≡ length s.entries =
    c.in_ok-entry-in-Commit.ensures.entry ∙ ap entries_before (sym is.leaves) ∙ entries-length s in
    ap (λ (n : ℕ). Committed (record { task = c.args.task; entry = n })) number
    ∙ ap (call_answer s c.args.task) (sym c.in-Commit.is)

pub returns-in_ok-of-in-Withdraw-clause-answer : goal.returns-in_ok-of-in-Withdraw-clause-answer
returns-in_ok-of-in-Withdraw-clause-answer c s is =
    ap Withdrawn (answer-pending c.args.self.now s c.args.task c.in-Withdraw.buffer c.in_ok-of-in-Withdraw.of is
    c.in_ok-of-in-Withdraw.ensures.refusal c.in_ok-of-in-Withdraw.ensures.answer)
    ∙ ap (call_answer s c.args.task) (sym c.in-Withdraw.is)
