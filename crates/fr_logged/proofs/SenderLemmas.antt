-- What is due in a slot is what the node in the table of senders may send there.
use Rattle.std.proofs.Common.{◌≡◌, ℕ, suc, ◌+◌, ◌<◌, Bool, true, false, List, [], ◌∷◌, refl, sym}
use Rattle.std.proofs.Common.{ap, ◌∙◌, Option, Some, None, slice_get}
use Rattle.std.proofs.lemmas.Bool.{cond-true, cond-false, false_from_ne_true}
use Rattle.std.specs.List.{list_any}
use Rattle.fr_logged.proofs.DueLemmas.{due_is_owners, due_is_senders, static_sender, dynamic_sender}
use Rattle.fr_logged.proofs.FirstLemmas.{none_found_in, some_found_in, Found}
use Rattle.fr_logged.specs.Dues.{line_in, buffer_in, owner_or, owner_from}
use Rattle.fr_logged.specs.Dues.{sender_or, sender_from, due_from, due_of}
use Rattle.fr_schedule.specs.Clusters.{IsCluster}
use Rattle.fr_schedule.specs.Descriptions.{Description}
use Rattle.fr_schedule.specs.SenderTable.{IsSender}
use Rattle.fr_slots.specs.declared.channel.Channel.{Channel}
use Rattle.fr_slots.specs.declared.plan.Buffer.{Buffer}
use Rattle.fr_slots.specs.declared.plan.Own.{Own}
use Rattle.fr_slots.specs.Faults.{claims, is_owned, sends_at}
use Rattle.fr_slots.specs.Parameters.{Parameters, is_static_slot}
use Rattle.fr_slots.specs.Plans.{Plan}
use Rattle.fr_slots.proofs.PlaceLemmas.{same_some}

-- ---- no sender

nobody_owns : (p : Parameters) (slot : ℕ) (channel : Channel) (cycle : ℕ) (plans : List Plan) (start : ℕ)
    → ((j : ℕ) (q : Plan) → slice_get plans j ≡ Some q → line_in slot channel cycle q ≡ None)
    → owner_from p slot channel cycle start plans ≡ None
nobody_owns p slot channel cycle [] start none = refl
nobody_owns p slot channel cycle (q ∷ qs) start none =
    ap (λ (x : Option Own). owner_or p start q x (buffer_in slot channel cycle q)
    (owner_from p slot channel cycle (start + 1) qs)) (none 0 q refl)
    ∙ nobody_owns p slot channel cycle qs (start + 1) (λ j r there. none (suc j) r there)

nobody_sends : (p : Parameters) (slot : ℕ) (channel : Channel) (cycle : ℕ) (plans : List Plan) (start : ℕ)
    → ((j : ℕ) (q : Plan) → slice_get plans j ≡ Some q → buffer_in slot channel cycle q ≡ None)
    → sender_from p slot channel cycle start plans ≡ None
nobody_sends p slot channel cycle [] start none = refl
nobody_sends p slot channel cycle (q ∷ qs) start none =
    ap (λ (x : Option Buffer). sender_or p channel start q x (sender_from p slot channel cycle (start + 1) qs))
    (none 0 q refl)
    ∙ nobody_sends p slot channel cycle qs (start + 1) (λ j r there. none (suc j) r there)

-- without a sender nothing is due
pub due_nobody : (d : Description) (slot : ℕ) (channel : Channel) (cycle : ℕ)
    → ((node : ℕ) → IsSender d cycle slot channel node → ⊥) → due_of d slot channel cycle ≡ None
due_nobody d slot channel cycle none = by (is_static_slot d.params slot) refl
  where
    by : (b : Bool) → is_static_slot d.params slot ≡ b → due_of d slot channel cycle ≡ None
    by true e =
        cond-true (is_static_slot d.params slot) (owner_from d.params slot channel cycle 0 d.plans)
        (sender_from d.params slot channel cycle 0 d.plans) e
        ∙ nobody_owns d.params slot channel cycle d.plans 0
        (λ j q there. none_found_in (claims slot channel cycle) q.owned
        (false_from_ne_true (is_owned q.owned slot channel cycle)
        (λ owned. none j (static_sender d slot channel cycle j q e there owned))))
    by false e =
        cond-false (is_static_slot d.params slot) (owner_from d.params slot channel cycle 0 d.plans)
        (sender_from d.params slot channel cycle 0 d.plans) e
        ∙ nobody_sends d.params slot channel cycle d.plans 0
        (λ j q there. none_found_in (sends_at slot channel cycle) q.buffers
        (false_from_ne_true (list_any (sends_at slot channel cycle) q.buffers)
        (λ some. none j (dynamic_sender d slot channel cycle j q e there some))))

-- ---- a sender

-- with a sender that is due which this node may send
pub due_somebody : (d : Description) (slot : ℕ) (channel : Channel) (cycle node : ℕ) (plan : Plan)
    → IsCluster d → cycle < 64 → IsSender d cycle slot channel node → slice_get d.plans node ≡ Some plan
    → due_from d.params node plan slot channel cycle ≡ due_of d slot channel cycle
due_somebody d slot channel cycle node plan cluster fits sender at = by (is_static_slot d.params slot) refl
  where
    same : sender.plan ≡ plan
    same = same_some sender.plan plan (sym sender.at ∙ at)

    by : (b : Bool) → is_static_slot d.params slot ≡ b
        → due_from d.params node plan slot channel cycle ≡ due_of d slot channel cycle
    by true e =
        let owned : is_owned plan.owned slot channel cycle ≡ true =
        ap (λ (q : Plan). is_owned q.owned slot channel cycle) (sym same)
        ∙ sym (cond-true (is_static_slot d.params slot) (is_owned sender.plan.owned slot channel cycle)
        (list_any (sends_at slot channel cycle) sender.plan.buffers) e) ∙ sender.sends in
        let own : Found (claims slot channel cycle) plan.owned = some_found_in (claims slot channel cycle) plan.owned
        owned in
        cond-true (is_static_slot d.params slot)
        (owner_or d.params node plan (line_in slot channel cycle plan) (buffer_in slot channel cycle plan) None)
        (sender_or d.params channel node plan (buffer_in slot channel cycle plan) None) e
        ∙ ap (λ (x : Option Own). owner_or d.params node plan x (buffer_in slot channel cycle plan) None) own.is
        ∙ sym (due_is_owners d slot channel cycle node plan own.value cluster.one_sender fits e at own.is)
    by false e =
        let some : list_any (sends_at slot channel cycle) plan.buffers ≡ true =
        ap (λ (q : Plan). list_any (sends_at slot channel cycle) q.buffers) (sym same)
        ∙ sym (cond-false (is_static_slot d.params slot) (is_owned sender.plan.owned slot channel cycle)
        (list_any (sends_at slot channel cycle) sender.plan.buffers) e) ∙ sender.sends in
        let buffer : Found (sends_at slot channel cycle) plan.buffers =
        some_found_in (sends_at slot channel cycle) plan.buffers some in
        cond-false (is_static_slot d.params slot)
        (owner_or d.params node plan (line_in slot channel cycle plan) (buffer_in slot channel cycle plan) None)
        (sender_or d.params channel node plan (buffer_in slot channel cycle plan) None) e
        ∙ ap (λ (x : Option Buffer). sender_or d.params channel node plan x None) buffer.is
        ∙ sym (due_is_senders d slot channel cycle node plan buffer.value cluster.one_sender fits e at buffer.is)
