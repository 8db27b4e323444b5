-- From the minislots of a slot to those of the next one.
use Rattle.std.proofs.Common.{◌≡◌, ℕ, zero, suc, ◌+◌, ◌-◌, ◌≤◌, Bool, true, ◌&&◌, eqb, List, [], ◌∷◌}
use Rattle.std.proofs.Common.{sym, ap, ◌∙◌, subst, arith, Some, None, slice_get}
use Rattle.std.specs.List.{list_any}
use Rattle.fr_slots.specs.declared.channel.Channel.{Channel}
use Rattle.fr_slots.specs.declared.plan.Buffer.{Buffer}
use Rattle.fr_slots.proofs.FaultlessLemmas.{faultless_if}
use Rattle.fr_slots.specs.Admission.{cycle_admitted, includes}
use Rattle.fr_slots.specs.Faults.{latest_on, sends_at, transmits, IsFaultless}
use Rattle.fr_slots.specs.Parameters.{Parameters}
use Rattle.fr_slots.specs.Plans.{Plan, Each}
use Rattle.fr_schedule.specs.Clusters.{IsCluster, IsNode}
use Rattle.fr_schedule.specs.Descriptions.{Description}
use Rattle.fr_latency.specs.Cells.{HasBits, BeginsAbove, AddsTo, CycleTest}
use Rattle.fr_latency.specs.Openings.{frame_length, is_for, follows_frame, follows_buffer, follows_node, follows}
use Rattle.fr_latency.specs.Openings.{slot_after}
use Rattle.fr_latency.specs.Openings.{can_begin}
use Rattle.fr_latency.proofs.BeginLemmas.{frames_have_lengths, starts_after, begins_more}
use Rattle.fr_latency.proofs.CellLemmas.{bits_same, after_frame}

-- ---- a buffer

its_cycles : (t a b c : Bool) → (t && (a && b)) ≡ true → c ≡ (t && ((a && b) && c))
its_cycles t a b c is = grind arith

-- a buffer for the slot sends in the cycles of its filter
pub sends_in_cycles : (slot : ℕ) (channel : Channel) (cycle : ℕ) (b : Buffer) → is_for slot channel b ≡ true
    → cycle_admitted b.filter.cycles cycle ≡ sends_at slot channel cycle b
sends_in_cycles slot channel cycle b is =
    its_cycles (transmits b) (eqb b.filter.slot slot) (includes b.filter.channels channel)
    (cycle_admitted b.filter.cycles cycle) is

pub frame_follows : (p : Parameters) (slot : ℕ) (channel : Channel) (plan : Plan) (b : Buffer)
    → is_for slot channel b ≡ true
    → (test : CycleTest) (cycle minislot : ℕ)
    → after_frame (latest_on plan channel) (frame_length p b) b.filter.cycles test cycle minislot
    ≡ follows_buffer p slot channel cycle (test cycle) minislot plan b
frame_follows p slot channel plan b is test cycle minislot =
    ap (λ sends. sends && follows_frame p channel (test cycle) minislot plan b)
    (sends_in_cycles slot channel cycle b is)

-- ---- the nodes of a cluster

pub each_at : {X : Type 0} (P : X → Type 0) (xs : List X) (k : ℕ) (x : X) → Each P xs → slice_get xs k ≡ Some x → P x
each_at P [] k x each is = absurd (cc)
each_at P (y ∷ ys) zero x each is = subst P (cc) each.0
each_at P (y ∷ ys) (suc k) x each is = each_at P ys k x each.1 is

pub latest_fits : (d : Description) → IsCluster d → (i : ℕ) (plan : Plan) → slice_get d.plans i ≡ Some plan
    → (channel : Channel) → latest_on plan channel ≤ d.params.minislots
latest_fits d is i plan at channel =
    let node : IsNode d.params plan = each_at (IsNode d.params) d.plans i plan is.nodes_are at in
    let faultless : IsFaultless d.params plan = faultless_if d.params plan None (sym node.1) in
    faultless.latest_fits channel

-- ---- all nodes

silent_bits : (d : Description) (channel : Channel) (earlier : ℕ) (cells : List ℕ)
    → HasBits (earlier + 1) (λ cycle minislot. can_begin d channel cycle earlier minislot) cells
    → HasBits (earlier + 2) (λ cycle minislot. can_begin d channel cycle earlier (minislot - 1)) cells
silent_bits d channel earlier cells is = λ index cycle less within.
    let same : earlier + 1 + index ≡ earlier + 2 + index - 1 = omega arith in
    is index cycle less within ∙ ap (can_begin d channel cycle earlier) same

pub stepped : (d : Description) (channel : Channel) (slot earlier : ℕ) (before new : List ℕ) → IsCluster d
    → slot ≡ slot_after d.params earlier
    → HasBits (earlier + 1) (λ cycle minislot. can_begin d channel cycle earlier minislot) before
    → AddsTo earlier
    (λ test cycle minislot. list_any (follows_node d.params slot channel cycle (test cycle) minislot) d.plans)
    before before new
    → HasBits (earlier + 2) (λ cycle minislot. can_begin d channel cycle (earlier + 1) minislot) new
stepped d channel slot earlier before new is at begins adds =
    let test : CycleTest = λ cycle minislot. can_begin d channel cycle earlier minislot in
    let above : BeginsAbove earlier test = λ cycle minislot few.
    starts_after d channel cycle earlier minislot (frames_have_lengths d.params is.params_are) few in
    bits_same (earlier + 2)
    (λ cycle minislot. follows d.params d.plans slot channel cycle (can_begin d channel cycle earlier) minislot)
    (λ cycle minislot. can_begin d channel cycle (earlier + 1) minislot) new
    (λ cycle minislot.
    ap (λ s. follows d.params d.plans s channel cycle (can_begin d channel cycle earlier) minislot) at
    ∙ sym (begins_more d channel cycle earlier minislot))
    (adds test (λ cycle minislot. can_begin d channel cycle earlier (minislot - 1)) above begins
    (silent_bits d channel earlier before begins))
