-- No slot begins after the longest rows of the slots before it.
use Rattle.std.proofs.Common.{◌≡◌, ℕ, zero, suc, ◌-◌, ◌≤◌, max, true, leb, List, [], ◌∷◌}
use Rattle.std.proofs.Common.{ap, arith, inl, inr, Some, slice_get}
use Rattle.std.proofs.lemmas.Bool.{and_parts, cond-true, eqb-true, or_cases}
use Rattle.fr_slots.specs.declared.channel.Channel.{Channel}
use Rattle.fr_slots.specs.Faults.{latest_on, sends_at}
use Rattle.fr_schedule.specs.Clusters.{IsCluster}
use Rattle.fr_schedule.specs.Descriptions.{Description}
use Rattle.fr_latency.specs.Bounds.{after_longest, longest_of, row_of_buffer, row_of_plan}
use Rattle.fr_latency.specs.Openings.{can_begin, follows_buffer, follows_node, frame_length, slot_after}
use Rattle.fr_latency.proofs.LaneLemmas.{found_in}

longest_least : {X : Type 0} (value : X → ℕ) (least : ℕ) (xs : List X) → least ≤ longest_of value least xs
longest_least value least [] = omega arith
longest_least value least (x ∷ xs) = omega (arith, longest_least value (max least (value x)) xs)

longest_at : {X : Type 0} (value : X → ℕ) (least : ℕ) (xs : List X) (k : ℕ) (x : X) → slice_get xs k ≡ Some x
    → value x ≤ longest_of value least xs
longest_at value least [] k x at = absurd (cc)
longest_at value least (y ∷ ys) zero x at =
    let same : y ≡ x = cc in
    omega (arith, ap value same, longest_least value (max least (value y)) ys)
longest_at value least (y ∷ ys) (suc k) x at = longest_at value (max least (value y)) ys k x at

pub begins_bounded : (d : Description) → IsCluster d → (on : Channel) (cycle earlier minislot : ℕ)
    → can_begin d on cycle earlier minislot ≡ true → minislot ≤ after_longest d on cycle earlier
unfolding can_begin after_longest
begins_bounded d is on cycle zero minislot begins = omega (arith, eqb-true minislot 1 begins)
begins_bounded d is on cycle (suc earlier) minislot begins =
    let p = d.params in
    let slot = slot_after p earlier in
    let test = can_begin d on cycle earlier in
    elim (or_cases (test (minislot - 1)) _ begins) as (λ _. minislot ≤ after_longest d on cycle (suc earlier)) [
      | inl silent ↦
          omega (
            arith,
            begins_bounded d is on cycle earlier (minislot - 1) silent,
            longest_least (row_of_plan p slot on cycle) 1 d.plans,
          )
      | inr sent ↦
          let node = found_in (follows_node p slot on cycle test minislot) d.plans sent in
          let plan = node.item in
          let tasks = and_parts (leb 1 plan.tasks) _ node.passes in
          let buffer = found_in (follows_buffer p slot on cycle test minislot plan) plan.buffers tasks.1 in
          let b = buffer.item in
          let sends = and_parts (sends_at slot on cycle b) _ buffer.passes in
          let begin = minislot - frame_length p b in
          let in_time = and_parts (leb begin (latest_on plan on)) (test begin) sends.1 in
          let bound = begins_bounded d is on cycle earlier begin in_time.1 in
          let row : row_of_buffer p slot on cycle b ≡ frame_length p b =
          cond-true (sends_at slot on cycle b) (frame_length p b) 1 sends.0 in
          let of_plan = longest_at (row_of_buffer p slot on cycle) 1 plan.buffers buffer.place b buffer.at in
          let of_all = longest_at (row_of_plan p slot on cycle) 1 d.plans node.place plan node.at in
          omega (arith, bound, row, of_plan, of_all)
    ]
