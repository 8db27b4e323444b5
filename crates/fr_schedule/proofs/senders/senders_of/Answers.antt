use Rattle.std.proofs.Common.{List, ℕ, ap, subst, sym, ◌∙◌, length}
use Rattle.fr_schedule.proofs.DenseSenderLemmas.{first_overlapping, free_is, free_size}
use Rattle.fr_schedule.specs.declared.claims.Claim.{Claim}
use Rattle.fr_schedule.specs.Claims.{filters_of}
use Rattle.fr_schedule.specs.DenseTable.{IsFree}
use Rattle.fr_slots.specs.Sharing.{IsFirst, is_shared}
use Rattle.fr_schedule.proofs.senders.senders_of.Goals as goal

pub enter_all-of_owners-requires : goal.enter_all-of_owners-requires
enter_all-of_owners-requires c = ap length (c.as_mut_slice-nodes.ensures.value ∙ c.in_ok-senders.ensures) ∙ free_size

pub enter_anew-of_buffers-requires : goal.enter_anew-of_buffers-requires
enter_anew-of_buffers-requires c =
    c.enter_all-of_owners.ensures.entered.size
    ∙ ap length (c.as_mut_slice-nodes.ensures.value ∙ c.in_ok-senders.ensures)
    ∙ free_size

pub file_fault-requires-clause-first : goal.file_fault-requires-clause-first
file_fault-requires-clause-first c =
    rw c.earlier.ensures
    (first_overlapping c.args.plans.now c.enter_all-of_owners.result c.enter_anew-of_buffers.result
    (subst (λ (claims : List Claim). IsFirst (is_shared (filters_of claims)) c.enter_all-of_owners.result)
    (c.as_slice.ensures.value ∙ c.in_ok-owned.ensures)
    (c.enter_all-of_owners.ensures.first
    (subst (λ (nodes : List ℕ). IsFree nodes) (sym (c.as_mut_slice-nodes.ensures.value ∙ c.in_ok-senders.ensures))
    free_is)))
    (subst (λ (claims : List Claim). IsFirst (is_shared (filters_of claims)) c.enter_anew-of_buffers.result)
    (c.as_slice-2.ensures.value ∙ c.in_ok-transmitting.ensures)
    c.enter_anew-of_buffers.ensures.first))

pub enter_all-requires : goal.enter_all-requires
enter_all-requires c = c.enter_anew-of_buffers.ensures.table.size ∙ free_size
