use Rattle.std.proofs.Common.{◌≡◌, List, Option, arith, ap, sym, subst, ◌∙◌, option_map}
use Rattle.std.specs.Option.{option_and_then}
use Rattle.std.specs.Prelude.{slice_get}
use Rattle.fr_interface.specs.StateFields.{standing_in}
use Rattle.fr_interface.specs.Standing.{Standing, IsHistory}
use Rattle.fr_interface.specs.State.{with_entry, read_entry, received_by}
use Rattle.fr_interface.proofs.StandingLemmas.{history-read, held-read}
use Rattle.fr_journal.specs.declared.entry.Arrival.{Arrival}
use Rattle.fr_journal.specs.Entries.{IsOrigin}
use Rattle.fr_journal.specs.Held.{origin_of}
use Rattle.fr_interface.proofs.state.InterfaceState.read.Goals as goal

pub invariant_of-self : goal.invariant_of-self
invariant_of-self c =
    let h = standing_in c.self.inside in
    let line = c.in-Some.line in
    let held_is : c.arrival_at-held.result ≡ received_by c.self.invariant.0 c.args.buffer =
    c.arrival_at-held.ensures ∙ ap (λ (l : List (Option Arrival)). option_and_then (λ (h : Option Arrival). h)
    (slice_get l c.args.buffer)) c.deref.ensures.value
    ∙ held-read h c.self.invariant.0 c.args.buffer c.self.invariant.1 in
    let fits : IsOrigin (option_map origin_of (received_by c.self.invariant.0 c.args.buffer)) =
    subst IsOrigin (c.origin_in-from.ensures.value ∙ ap (option_map origin_of) held_is)
    c.origin_in-from.ensures.fits in (
      with_entry c.self.invariant.0 (read_entry c.self.invariant.0 c.args.task c.args.buffer),
      history-read h c.self.invariant.0 c.args.task c.args.buffer line c.self.invariant.1
          (c.number.ensures.fits, c.ranges.buffer.fits, fits)
          (omega (arith, c.number.ensures.value, c.tasks.ensures.value))
          (sym c.buffer.ensures ∙ c.in-Some.is)
          (sym c.is_receive.ensures ∙ c.if-not-is_receive.false)
          (omega arith),
    )

pub returns-clause-answer : goal.returns-clause-answer
returns-clause-answer c = λ s is.
    c.arrival_at-held.ensures ∙ ap (λ (l : List (Option Arrival)). option_and_then (λ (h : Option Arrival). h)
    (slice_get l c.args.buffer)) c.deref.ensures.value
    ∙ held-read (standing_in c.self.inside) s c.args.buffer (subst (λ (x : Standing). IsHistory x s)
    (sym c.self.view_is) is)

pub returns-clause-history : goal.returns-clause-history
returns-clause-history c = λ s is.
    let h = standing_in c.self.inside in
    let line = c.in-Some.line in
    let held_is : c.arrival_at-held.result ≡ received_by s c.args.buffer =
    c.arrival_at-held.ensures ∙ ap (λ (l : List (Option Arrival)). option_and_then (λ (h : Option Arrival). h)
    (slice_get l c.args.buffer)) c.deref.ensures.value
    ∙ held-read h s c.args.buffer (subst (λ (x : Standing). IsHistory x s) (sym c.self.view_is) is) in
    let fits : IsOrigin (option_map origin_of (received_by s c.args.buffer)) =
    subst IsOrigin (c.origin_in-from.ensures.value ∙ ap (option_map origin_of) held_is)
    c.origin_in-from.ensures.fits in
    history-read h s c.args.task c.args.buffer line (subst (λ (x : Standing). IsHistory x s) (sym c.self.view_is) is)
    (c.number.ensures.fits, c.ranges.buffer.fits, fits)
    (omega (arith, c.number.ensures.value, c.tasks.ensures.value))
    (sym c.buffer.ensures ∙ c.in-Some.is)
    (sym c.is_receive.ensures ∙ c.if-not-is_receive.false)
    (omega arith)
