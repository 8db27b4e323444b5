use Rattle.std.proofs.Common.{◌≡◌, List, [], ◌∷◌, ◌++◌, Option, ap, sym, subst, ◌∙◌, option_map}
use Rattle.std.specs.Prelude.{IfSome}
use Rattle.fr_interface.specs.InterfaceFields.{state_in}
use Rattle.fr_interface.specs.State.{pop_entry, oldest_of}
use Rattle.fr_interface.proofs.InterfaceLemmas.{lawful-more}
use Rattle.fr_interface.proofs.KeptLemmas.{front_receivable}
use Rattle.fr_interface.proofs.StandingLemmas.{oldest-there}
use Rattle.fr_journal.specs.declared.entry.Entry.TheVariants.{Pop}
use Rattle.fr_journal.specs.declared.entry.Arrival.{Arrival}
use Rattle.fr_journal.specs.declared.entry.Origin.{Origin}
use Rattle.fr_journal.specs.Forms.{Entry}
use Rattle.fr_journal.specs.Held.{frame_of, origin_of, IsReceivable}
use Rattle.fr_interface.proofs.interface.Chi.pop_arrival.Goals as goal

pub invariant_of-self-2 : goal.invariant_of-self-2
invariant_of-self-2 g c =
    let es = g.H.History.told c.self.inside.history in
    let s = state_in c.self.inside.state es in
    let from_is : c.origin_in-from.result ≡ option_map origin_of (oldest_of s) =
    c.origin_in-from.ensures.value ∙ ap (option_map origin_of)
    (c.in_ok-oldest.ensures.answer ∙ oldest-there c.self.inside.state s c.self.invariant.history) in
    let pushed : Option Origin → List Entry = λ from. es ++ Pop c.args.task from ∷ [] in
    lawful-more c.self.inside.state c.pop.new.self es _ _ _
    (pop_entry s c.args.task) c.self.invariant
    (c.push_host.ensures.entries ∙ ap pushed from_is) c.push_host.ensures.limits c.in_ok-oldest.ensures.terms
    (c.in_ok-oldest.ensures.history s c.self.invariant.history)

pub returns-clause-frames : goal.returns-clause-frames
returns-clause-frames g c =
    let es = g.H.History.told c.self.inside.history in
    let s = state_in c.self.inside.state es in
    subst (λ (a : Option Arrival). IfSome (option_map frame_of a) IsReceivable) (sym
    (c.in_ok-oldest.ensures.answer ∙ oldest-there c.self.inside.state s c.self.invariant.history))
    (front_receivable s.params s.plan s.entries c.self.invariant.history.legal.entries_are s.plan.queue)
