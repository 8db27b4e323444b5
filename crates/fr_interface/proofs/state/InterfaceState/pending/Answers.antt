use Rattle.std.proofs.Common.{◌≡◌, ℕ, List, Option, Some, None, refl, ap, sym, subst, ◌∙◌}
use Rattle.std.specs.Prelude.{IsSome}
use Rattle.fr_buffers.specs.Transmitting.{Transmitter}
use Rattle.fr_interface.specs.Sending.{pending_at}
use Rattle.fr_interface.specs.StateFields.{standing_in}
use Rattle.fr_interface.specs.Standing.{Standing, IsHistory}
use Rattle.fr_interface.specs.State.{State}
use Rattle.fr_interface.proofs.StandingLemmas.{pending-there}
use Rattle.fr_journal.specs.Fate.{pending_commit}
use Rattle.fr_slots.specs.declared.plan.Buffer.{Buffer}
use Rattle.fr_slots.specs.Plans.{buffer_at}
use Rattle.fr_interface.proofs.state.InterfaceState.pending.Goals as goal

waits : (h : Standing) (s : State) (buffer : ℕ) (line : Option Buffer) → IsHistory h s
    → buffer_at s.plan buffer ≡ line → IsSome line
    → pending_at h.transmit buffer ≡ pending_commit buffer s.entries
waits h s buffer None is there some = cc
waits h s buffer (Some line) is there some = pending-there h s buffer line is
    (sym (ap (λ (x : Standing). buffer_at x.plan buffer) is.leaves) ∙ there)

pub returns-clause-history : goal.returns-clause-history
returns-clause-history c s is some =
    let h = standing_in c.self.inside in
    c.pending_at.ensures
    ∙ ap (λ (l : List Transmitter). pending_at l c.args.buffer) c.deref.ensures.value
    ∙ waits h s c.args.buffer (buffer_at s.plan c.args.buffer)
    (subst (λ (x : Standing). IsHistory x s) (sym c.self.view_is) is)
    refl
    some
