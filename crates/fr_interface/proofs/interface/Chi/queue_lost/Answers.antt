use Rattle.std.proofs.Common.{◌≡◌, ℕ, ◌+◌, Option, sym, subst}
use Rattle.std.specs.Prelude.{IfSome}
use Rattle.fr_interface.specs.InterfaceFields.{state_in}
use Rattle.fr_interface.specs.State.{State, arrived_of, popped_of, queued_of}
use Rattle.fr_interface.proofs.StandingLemmas.{lost-balance}
use Rattle.fr_interface.proofs.interface.Chi.queue_lost.Goals as goal

pub returns-clause-balance : goal.returns-clause-balance
returns-clause-balance g c =
    let s = state_in c.self.inside.state (g.H.History.told c.self.inside.history) in
    subst (λ (t : State). IfSome c.queue_lost.result (λ lost. IfSome t.plan.queue
    (λ q. arrived_of t q ≡ popped_of t + queued_of t q + lost))) c.self.view_is
    (subst (λ (o : Option ℕ). IfSome o (λ lost. IfSome s.plan.queue
    (λ q. arrived_of s q ≡ popped_of s + queued_of s q + lost))) (sym c.queue_lost.ensures)
    (lost-balance c.self.inside.state s c.self.invariant.history))
