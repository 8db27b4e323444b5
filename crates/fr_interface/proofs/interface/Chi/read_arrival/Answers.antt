use Rattle.std.proofs.Common.{◌≡◌, List, [], ◌∷◌, ◌++◌, Option, ap, sym, subst, ◌∙◌, option_map}
use Rattle.std.specs.Prelude.{IfSome}
use Rattle.fr_interface.specs.InterfaceFields.{state_in}
use Rattle.fr_interface.specs.State.{read_entry, received_by}
use Rattle.fr_interface.proofs.InterfaceLemmas.{lawful-more}
use Rattle.fr_interface.proofs.StandingLemmas.{received_receivable}
use Rattle.fr_journal.specs.declared.entry.Entry.TheVariants.{Read}
use Rattle.fr_journal.specs.declared.entry.Arrival.{Arrival}
use Rattle.fr_journal.specs.declared.entry.Origin.{Origin}
use Rattle.fr_journal.specs.Forms.{Entry}
use Rattle.fr_journal.specs.Held.{frame_of, origin_of, IsReceivable}
use Rattle.fr_interface.proofs.interface.Chi.read_arrival.Goals as goal

pub invariant_of-self-2 : goal.invariant_of-self-2
invariant_of-self-2 g c =
    let es = g.H.History.told c.self.inside.history in
    let s = state_in c.self.inside.state es in
    let from_is : c.origin_in-from.result ≡ option_map origin_of (received_by s c.args.buffer) =
    c.origin_in-from.ensures.value ∙ ap (option_map origin_of)
    (c.in_ok-held.ensures.answer s c.self.invariant.history) in
    let pushed : Option Origin → List Entry = λ from. es ++ Read c.args.task c.args.buffer from ∷ [] in
    lawful-more c.self.inside.state c.read.new.self es _ _ _
    (read_entry s c.args.task c.args.buffer) c.self.invariant
    (c.push_host.ensures.entries ∙ ap pushed from_is) c.push_host.ensures.limits c.in_ok-held.ensures.terms
    (c.in_ok-held.ensures.history s c.self.invariant.history)

pub returns-clause-frames : goal.returns-clause-frames
returns-clause-frames g c =
    let es = g.H.History.told c.self.inside.history in
    let s = state_in c.self.inside.state es in
    subst (λ (a : Option Arrival). IfSome (option_map frame_of a) IsReceivable) (sym
    (c.in_ok-held.ensures.answer s c.self.invariant.history))
    (received_receivable s c.args.buffer c.self.invariant.history.legal.entries_are)
