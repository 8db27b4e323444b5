use Rattle.std.proofs.Common.{◌≡◌, arith, ap, not, sym, subst, ◌∙◌, option_map}
use Rattle.std.specs.Prelude.{is_some}
use Rattle.fr_interface.specs.StateFields.{standing_in}
use Rattle.fr_interface.specs.Standing.{Standing, IsHistory, after_pop}
use Rattle.fr_interface.specs.State.{with_entry, pop_entry, oldest_of}
use Rattle.fr_interface.proofs.StandingLemmas.{history-pop, oldest-there}
use Rattle.fr_journal.specs.Entries.{IsOrigin}
use Rattle.fr_journal.specs.Held.{origin_of}
use Rattle.fr_interface.proofs.state.InterfaceState.pop.Goals as goal

pub invariant_of-self : goal.invariant_of-self
invariant_of-self c =
    let h = standing_in c.self.inside in
    let taken : c.pop_from-oldest.result ≡ oldest_of c.self.invariant.0 =
    c.pop_from-oldest.ensures.oldest ∙ oldest-there h c.self.invariant.0 c.self.invariant.1 in
    let fits : IsOrigin (option_map origin_of (oldest_of c.self.invariant.0)) =
    subst IsOrigin (c.origin_in-from.ensures.value ∙ ap (option_map origin_of) taken) c.origin_in-from.ensures.fits
    in (
      with_entry c.self.invariant.0 (pop_entry c.self.invariant.0 c.args.task),
      subst (λ (x : Standing). IsHistory x (with_entry c.self.invariant.0 (pop_entry c.self.invariant.0 c.args.task)))
          (λ i. record (after_pop h) { queue = sym c.pop_from-oldest.ensures.left i })
          (history-pop h c.self.invariant.0 c.args.task c.self.invariant.1
          (c.number.ensures.fits, fits)
          (omega (arith, c.number.ensures.value, c.tasks.ensures.value))
          (ap is_some (sym c.queue.ensures.value) ∙ c.is_none.ensures ∙ ap not c.if-is_none.false)
          (omega arith)),
    )

pub returns-clause-history : goal.returns-clause-history
returns-clause-history c = λ s is.
    let h = standing_in c.self.inside in
    let taken : c.pop_from-oldest.result ≡ oldest_of s = c.pop_from-oldest.ensures.oldest ∙ oldest-there h s
    (subst (λ (x : Standing). IsHistory x s) (sym c.self.view_is) is) in
    let fits : IsOrigin (option_map origin_of (oldest_of s)) =
    subst IsOrigin (c.origin_in-from.ensures.value ∙ ap (option_map origin_of) taken) c.origin_in-from.ensures.fits
    in
    subst (λ (x : Standing). IsHistory x (with_entry s (pop_entry s c.args.task)))
    (λ i. record (after_pop h) { queue = sym c.pop_from-oldest.ensures.left i })
    (history-pop h s c.args.task (subst (λ (x : Standing). IsHistory x s) (sym c.self.view_is) is)
    (c.number.ensures.fits, fits)
    (omega (arith, c.number.ensures.value, c.tasks.ensures.value))
    (ap is_some (sym c.queue.ensures.value) ∙ c.is_none.ensures ∙ ap not c.if-is_none.false)
    (omega arith))
