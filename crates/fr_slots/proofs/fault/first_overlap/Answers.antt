use Rattle.std.proofs.Common.{◌≡◌, List, Option, None, Some, subst, sym, ◌∙◌}
use Rattle.fr_slots.specs.declared.filter.Filter.{Filter}
use Rattle.fr_slots.specs.declared.plan.Buffer.{Buffer}
use Rattle.fr_slots.specs.declared.plan.Own.{Own}
use Rattle.fr_slots.specs.declared.sharing.Occasion.{Occasion}
use Rattle.fr_slots.specs.Faults.{is_overlap}
use Rattle.fr_slots.specs.Sharing.{IsFirst, is_shared, earlier, own_filters, transmit_filters}
use Rattle.fr_slots.proofs.ScanLemmas.{overlap-none, overlap-some, overlap-shared}
use Rattle.fr_slots.proofs.SharingLemmas.{IsFirst-earlier}
use Rattle.fr_slots.proofs.fault.first_overlap.Goals as goal

first_is : (owned : List Own) (buffers : List Buffer) (owns sends : List Filter) (p q o : Option Occasion)
    → owns ≡ own_filters owned
    → sends ≡ transmit_filters buffers → IsFirst (is_shared owns) p → IsFirst (is_shared sends) q → o ≡ earlier p q
    → IsFirst (is_overlap owned buffers) o
first_is owned buffers owns sends p q o owns_are sends_are is_p is_q is =
    subst (IsFirst (is_overlap owned buffers)) (sym is)
    (IsFirst-earlier (is_shared (own_filters owned)) (is_shared (transmit_filters buffers))
    (is_overlap owned buffers) p q
    (overlap-shared owned buffers)
    (subst (λ (filters : List Filter). IsFirst (is_shared filters) p) owns_are is_p)
    (subst (λ (filters : List Filter). IsFirst (is_shared filters) q) sends_are is_q))

pub returns-in_err-shared : goal.returns-in_err-shared
returns-in_err-shared c =
    c.from_residual.ensures
    ∙ sym (overlap-none c.args.owned.now c.args.buffers.now
    (first_is c.args.owned.now c.args.buffers.now c.as_slice.result.now c.as_slice-2.result.now
    c.first_shared-of_owners.result
    c.first_shared-of_buffers.result None (c.as_slice.ensures.value ∙ c.own_filters.ensures)
    (c.as_slice-2.ensures.value ∙ c.transmit_filters.ensures) c.first_shared-of_owners.ensures
    c.first_shared-of_buffers.ensures
    (sym c.in_err-shared.was ∙ c.earlier.ensures)))

pub returns : goal.returns
returns c =
    sym (overlap-some c.args.owned.now c.args.buffers.now c.in_ok-shared.shared
    (first_is c.args.owned.now c.args.buffers.now c.as_slice.result.now c.as_slice-2.result.now
    c.first_shared-of_owners.result
    c.first_shared-of_buffers.result (Some c.in_ok-shared.shared) (c.as_slice.ensures.value ∙ c.own_filters.ensures)
    (c.as_slice-2.ensures.value ∙ c.transmit_filters.ensures) c.first_shared-of_owners.ensures
    c.first_shared-of_buffers.ensures
    (sym c.in_ok-shared.was ∙ c.earlier.ensures)))
