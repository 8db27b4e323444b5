use Rattle.std.proofs.Common.{ℕ, ◌≤◌, Option, ap, sym, subst, ◌∙◌}
use Rattle.std.specs.Prelude.{IfSome}
use Rattle.fr_interface.specs.InterfaceFields.{state_in}
use Rattle.fr_interface.specs.State.{length_of}
use Rattle.fr_interface.proofs.StandingLemmas.{answer-length, length-within}
use Rattle.fr_interface.proofs.interface.Chi.queue_len.Goals as goal

pub returns-clause-value : goal.returns-clause-value
returns-clause-value g c =
    let s = state_in c.self.inside.state (g.H.History.told c.self.inside.history) in
    c.queue_len.ensures ∙ answer-length c.self.inside.state s c.self.invariant.history ∙ ap length_of c.self.view_is

pub returns-clause-within : goal.returns-clause-within
returns-clause-within g c =
    let s = state_in c.self.inside.state (g.H.History.told c.self.inside.history) in
    subst (λ (o : Option ℕ). IfSome o (λ n. IfSome c.args.self.now.plan.queue (λ q. n ≤ q.capacity)))
    (sym (c.queue_len.ensures ∙ answer-length c.self.inside.state s c.self.invariant.history
    ∙ ap length_of c.self.view_is))
    (length-within c.args.self.now)
