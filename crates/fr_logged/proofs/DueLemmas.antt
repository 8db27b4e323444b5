-- What is due in a static slot is what its one owner sends.
use Rattle.std.proofs.Common.{◌≡◌, ℕ, zero, suc, ◌+◌, ◌<◌, true, false, List, [], ◌∷◌, refl}
use Rattle.std.proofs.Common.{ap, ◌∙◌, arith, Option, Some, None, slice_get}
use Rattle.std.proofs.lemmas.Bool.{cond-true, cond-false, false_from_ne_true}
use Rattle.std.specs.List.{list_any}
use Rattle.fr_logged.proofs.FirstLemmas.{none_found_in, any_found_in}
use Rattle.fr_logged.specs.Dues.{line_in, buffer_in, static_due, dynamic_due, owner_or, owner_from}
use Rattle.fr_logged.specs.Dues.{sender_or, sender_from, due_of}
use Rattle.fr_logged.specs.declared.due.Due.{Due}
use Rattle.fr_schedule.specs.Descriptions.{Description}
use Rattle.fr_schedule.specs.SenderTable.{IsSender, HasOneSender}
use Rattle.fr_slots.specs.declared.channel.Channel.{Channel}
use Rattle.fr_slots.specs.declared.plan.Buffer.{Buffer}
use Rattle.fr_slots.specs.declared.plan.Own.{Own}
use Rattle.fr_slots.specs.Faults.{claims, is_owned, sends_at}
use Rattle.fr_slots.specs.Parameters.{Parameters, is_static_slot}
use Rattle.fr_slots.specs.Plans.{Plan}
use Rattle.fr_slots.proofs.PlaceLemmas.{same_some}

owner_here : (p : Parameters) (node : ℕ) (plan : Plan) (own : Own) (o : Option Own) (b : Option Buffer)
    (others : Option Due) → o ≡ Some own → owner_or p node plan o b others ≡ Some (static_due p node plan own b)
owner_here p node plan own o b others e = ap (λ (x : Option Own). owner_or p node plan x b others) e

owner_past : (p : Parameters) (node : ℕ) (plan : Plan) (o : Option Own) (b : Option Buffer) (others : Option Due)
    → o ≡ None → owner_or p node plan o b others ≡ others
owner_past p node plan o b others e = ap (λ (x : Option Own). owner_or p node plan x b others) e

owner_at : (p : Parameters) (slot : ℕ) (channel : Channel) (cycle : ℕ) (plans : List Plan) (start k : ℕ) (plan : Plan)
    (own : Own) → slice_get plans k ≡ Some plan → line_in slot channel cycle plan ≡ Some own
    → ((j : ℕ) (q : Plan) → j < k → slice_get plans j ≡ Some q → line_in slot channel cycle q ≡ None)
    → owner_from p slot channel cycle start plans
    ≡ Some (static_due p (start + k) plan own (buffer_in slot channel cycle plan))
owner_at p slot channel cycle [] start k plan own at is before = absurd (let none : ⊥ = cc in none)
owner_at p slot channel cycle (q ∷ qs) start zero plan own at is before =
    let same : q ≡ plan = same_some q plan at in
    owner_here p start q own (line_in slot channel cycle q) (buffer_in slot channel cycle q)
    (owner_from p slot channel cycle (start + 1) qs) (ap (line_in slot channel cycle) same ∙ is)
    ∙ ap (λ (r : Plan). Some (static_due p start r own (buffer_in slot channel cycle r))) same
    ∙ ap (λ (n : ℕ). Some (static_due p n plan own (buffer_in slot channel cycle plan)))
    (let none : start ≡ start + 0 = omega arith in none)
owner_at p slot channel cycle (q ∷ qs) start (suc k) plan own at is before =
    owner_past p start q (line_in slot channel cycle q) (buffer_in slot channel cycle q)
    (owner_from p slot channel cycle (start + 1) qs) (before 0 q (omega arith) refl)
    ∙ owner_at p slot channel cycle qs (start + 1) k plan own at is
    (λ j r lt there. before (suc j) r (omega arith) there)
    ∙ ap (λ (n : ℕ). Some (static_due p n plan own (buffer_in slot channel cycle plan)))
    (let more : start + 1 + k ≡ start + suc k = omega arith in more)

pub static_sender : (d : Description) (slot : ℕ) (channel : Channel) (cycle n : ℕ) (plan : Plan)
    → is_static_slot d.params slot ≡ true → slice_get d.plans n ≡ Some plan
    → is_owned plan.owned slot channel cycle ≡ true → IsSender d cycle slot channel n
static_sender d slot channel cycle n plan static at owned = record {
  plan = plan;
  at = at;
  sends = cond-true (is_static_slot d.params slot) (is_owned plan.owned slot channel cycle)
      (list_any (sends_at slot channel cycle) plan.buffers) static ∙ owned;
}

pub due_is_owners : (d : Description) (slot : ℕ) (channel : Channel) (cycle n : ℕ) (plan : Plan) (own : Own)
    → HasOneSender d → cycle < 64 → is_static_slot d.params slot ≡ true → slice_get d.plans n ≡ Some plan
    → line_in slot channel cycle plan ≡ Some own
    → due_of d slot channel cycle ≡ Some (static_due d.params n plan own (buffer_in slot channel cycle plan))
due_is_owners d slot channel cycle n plan own one fits static at is =
    cond-true (is_static_slot d.params slot) (owner_from d.params slot channel cycle 0 d.plans)
    (sender_from d.params slot channel cycle 0 d.plans) static
    ∙ owner_at d.params slot channel cycle d.plans 0 n plan own at is earlier
    ∙ ap (λ (m : ℕ). Some (static_due d.params m plan own (buffer_in slot channel cycle plan)))
    (let same : 0 + n ≡ n = omega arith in same)
  where
    mine : IsSender d cycle slot channel n
    mine = static_sender d slot channel cycle n plan static at
        (any_found_in (claims slot channel cycle) plan.owned own is)

    not_other : (j : ℕ) (q : Plan) → j < n → slice_get d.plans j ≡ Some q
        → is_owned q.owned slot channel cycle ≡ true → ⊥
    not_other j q lt there owned =
        let same : j ≡ n = one cycle slot channel j n fits (static_sender d slot channel cycle j q static there owned)
        mine in
        omega arith

    earlier : (j : ℕ) (q : Plan) → j < n → slice_get d.plans j ≡ Some q → line_in slot channel cycle q ≡ None
    earlier j q lt there = none_found_in (claims slot channel cycle) q.owned
        (false_from_ne_true (is_owned q.owned slot channel cycle) (not_other j q lt there))

-- ---- dynamic slots

sender_here : (p : Parameters) (channel : Channel) (node : ℕ) (plan : Plan) (b : Buffer) (o : Option Buffer)
    (others : Option Due) → o ≡ Some b → sender_or p channel node plan o others ≡ dynamic_due p channel node plan b
sender_here p channel node plan b o others e = ap (λ (x : Option Buffer). sender_or p channel node plan x others) e

sender_past : (p : Parameters) (channel : Channel) (node : ℕ) (plan : Plan) (o : Option Buffer) (others : Option Due)
    → o ≡ None → sender_or p channel node plan o others ≡ others
sender_past p channel node plan o others e = ap (λ (x : Option Buffer). sender_or p channel node plan x others) e

sender_at : (p : Parameters) (slot : ℕ) (channel : Channel) (cycle : ℕ) (plans : List Plan) (start k : ℕ) (plan : Plan)
    (b : Buffer) → slice_get plans k ≡ Some plan → buffer_in slot channel cycle plan ≡ Some b
    → ((j : ℕ) (q : Plan) → j < k → slice_get plans j ≡ Some q → buffer_in slot channel cycle q ≡ None)
    → sender_from p slot channel cycle start plans ≡ dynamic_due p channel (start + k) plan b
sender_at p slot channel cycle [] start k plan b at is before = absurd (let none : ⊥ = cc in none)
sender_at p slot channel cycle (q ∷ qs) start zero plan b at is before =
    let same : q ≡ plan = same_some q plan at in
    sender_here p channel start q b (buffer_in slot channel cycle q) (sender_from p slot channel cycle (start + 1) qs)
    (ap (buffer_in slot channel cycle) same ∙ is)
    ∙ ap (λ (r : Plan). dynamic_due p channel start r b) same
    ∙ ap (λ (n : ℕ). dynamic_due p channel n plan b) (let none : start ≡ start + 0 = omega arith in none)
sender_at p slot channel cycle (q ∷ qs) start (suc k) plan b at is before =
    sender_past p channel start q (buffer_in slot channel cycle q) (sender_from p slot channel cycle (start + 1) qs)
    (before 0 q (omega arith) refl)
    ∙ sender_at p slot channel cycle qs (start + 1) k plan b at is
    (λ j r lt there. before (suc j) r (omega arith) there)
    ∙ ap (λ (n : ℕ). dynamic_due p channel n plan b)
    (let more : start + 1 + k ≡ start + suc k = omega arith in more)

pub dynamic_sender : (d : Description) (slot : ℕ) (channel : Channel) (cycle n : ℕ) (plan : Plan)
    → is_static_slot d.params slot ≡ false → slice_get d.plans n ≡ Some plan
    → list_any (sends_at slot channel cycle) plan.buffers ≡ true → IsSender d cycle slot channel n
dynamic_sender d slot channel cycle n plan dynamic at some = record {
  plan = plan;
  at = at;
  sends = cond-false (is_static_slot d.params slot) (is_owned plan.owned slot channel cycle)
      (list_any (sends_at slot channel cycle) plan.buffers) dynamic ∙ some;
}

pub due_is_senders : (d : Description) (slot : ℕ) (channel : Channel) (cycle n : ℕ) (plan : Plan) (b : Buffer)
    → HasOneSender d → cycle < 64 → is_static_slot d.params slot ≡ false → slice_get d.plans n ≡ Some plan
    → buffer_in slot channel cycle plan ≡ Some b
    → due_of d slot channel cycle ≡ dynamic_due d.params channel n plan b
due_is_senders d slot channel cycle n plan b one fits dynamic at is =
    cond-false (is_static_slot d.params slot) (owner_from d.params slot channel cycle 0 d.plans)
    (sender_from d.params slot channel cycle 0 d.plans) dynamic
    ∙ sender_at d.params slot channel cycle d.plans 0 n plan b at is earlier
    ∙ ap (λ (m : ℕ). dynamic_due d.params channel m plan b) (let same : 0 + n ≡ n = omega arith in same)
  where
    mine : IsSender d cycle slot channel n
    mine = dynamic_sender d slot channel cycle n plan dynamic at
        (any_found_in (sends_at slot channel cycle) plan.buffers b is)

    not_other : (j : ℕ) (q : Plan) → j < n → slice_get d.plans j ≡ Some q
        → list_any (sends_at slot channel cycle) q.buffers ≡ true → ⊥
    not_other j q lt there some =
        let same : j ≡ n = one cycle slot channel j n fits
        (dynamic_sender d slot channel cycle j q dynamic there some) mine in
        omega arith

    earlier : (j : ℕ) (q : Plan) → j < n → slice_get d.plans j ≡ Some q → buffer_in slot channel cycle q ≡ None
    earlier j q lt there = none_found_in (sends_at slot channel cycle) q.buffers
        (false_from_ne_true (list_any (sends_at slot channel cycle) q.buffers) (not_other j q lt there))
