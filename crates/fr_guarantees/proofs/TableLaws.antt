-- A slot that the table of latencies calls guaranteed opens in time on each way.
use Rattle.std.proofs.Common.{◌≡◌, ℕ, zero, suc, ◌+◌, ◌-◌, ◌<◌, ◌≤◌, Bool, true, false, cond, inl, inr, List, [], ◌∷◌}
use Rattle.std.proofs.Common.{◌++◌, length, Option, Some, None, sym, ap, ◌∙◌, arith, slice_get}
use Rattle.std.specs.Prelude.{nat_le}
use Rattle.std.specs.Int.{div_ceil}
use Rattle.std.proofs.lemmas.Bool.{leb-true, or_left}
use Rattle.std.proofs.lemmas.Grind.{div_ceil_times}
use Rattle.std.proofs.Math.Nat.{le-mul_of_pos_right}
use Rattle.fr_core.proofs.CaseLemmas.{both_first}
use Rattle.fr_guarantees.proofs.WayLaws.{way_begins, not_above, first_more, row_is_frame}
use Rattle.fr_guarantees.specs.Guarantees.{AlwaysOpens, OpensBy}
use Rattle.fr_guarantees.specs.Ways.{IsRow, IsWay}
use Rattle.fr_latency.proofs.BeginLemmas.{begins_more}
use Rattle.fr_latency.proofs.GreatestLemmas.{greatest_bounds}
use Rattle.fr_latency.specs.Openings.{frame_length, can_begin, slots_before, horizon, last_begin}
use Rattle.fr_minislot.specs.DynamicRows.{first_minislot, slot_after, row_length}
use Rattle.fr_schedule.proofs.ClusterLemmas.{each_at}
use Rattle.fr_schedule.specs.Clusters.{IsCluster, IsNode}
use Rattle.fr_schedule.specs.Descriptions.{Description}
use Rattle.fr_slots.proofs.HistoryLemmas.{AllAfter-induction}
use Rattle.fr_slots.proofs.PlaceLemmas.{same_some}
use Rattle.fr_slots.specs.declared.channel.Channel.{Channel}
use Rattle.fr_slots.specs.declared.plan.Buffer.{Buffer}
use Rattle.fr_slots.specs.Faults.{words_of}
use Rattle.fr_slots.specs.Parameters.{Parameters, is_static_slot}
use Rattle.fr_slots.specs.Plans.{AllFit, Plan, buffer_at, buffer_fits, words_fit}

-- ---- no frame takes more than 300 minislots

pub fit_at : {X : Type 0} (fits : X → Bool) (xs : List X) (k : ℕ) (x : X) → AllFit fits xs → slice_get xs k ≡ Some x
    → fits x ≡ true
fit_at fits [] k x all at = absurd (let none : ⊥ = cc in none)
fit_at fits (y ∷ xs) zero x all at = ap fits (sym (same_some y x at)) ∙ all.0
fit_at fits (y ∷ xs) (suc k) x all at = fit_at fits xs k x all.1 at

few_words : (p : Parameters) (b : Buffer) → p.static_words ≤ 127 → words_fit b.words ≡ true → words_of p b ≤ 127
few_words p b static fits = by (is_static_slot p b.filter.slot) b.words fits
  where
    by : (still : Bool) (words : Option ℕ) → words_fit words ≡ true
        → cond still p.static_words (Rattle.std.specs.Prelude.unwrap_or words 0) ≤ 127
    by true words e = static
    by false None e = omega arith
    by false (Some n) e = leb-true n 127 e

most_quotient : (a n : ℕ) → 1 ≤ n → div_ceil a n ≤ a
most_quotient a n some = not_above a (div_ceil a n) n a (le-mul_of_pos_right a some) (div_ceil_times a n some).1

short_frame : (d : Description) → IsCluster d → (node number : ℕ) (plan : Plan) (b : Buffer)
    → slice_get d.plans node ≡ Some plan → buffer_at plan number ≡ Some b → frame_length d.params b ≤ 300
short_frame d cluster node number plan b plan_at at =
    let p = d.params in
    let plan_is = (each_at (IsNode p) d.plans node plan cluster.nodes_are plan_at).0 in
    let fits : buffer_fits b ≡ true = fit_at buffer_fits plan.buffers number b plan_is.buffers_fit at in
    let words : words_of p b ≤ 127 = few_words p b cluster.params_are.static_words_fit.at_most
    (both_first (words_fit b.words) _ fits) in
    let filled : div_ceil (words_of p b + 4) p.words_per_minislot ≤ words_of p b + 4 =
    most_quotient (words_of p b + 4) p.words_per_minislot cluster.params_are.words_per_minislot_fit.from_least in
    omega (arith, filled, words, cluster.params_are.idle_fit.at_most)

-- ---- no slot begins after the horizon

module _ (d : Description) (cluster : IsCluster d) (cycle : ℕ) (channel : Channel) where
  some_words : 0 < d.params.words_per_minislot
  some_words = let least = cluster.params_are.words_per_minislot_fit.from_least in omega (arith, least)

  short_row : (before : List ℕ) (bytes : ℕ) → IsRow d cycle channel before bytes → row_length d.params bytes ≤ 300
  short_row before bytes row = elim row.1 [
    | inl none ↦ (let one = ap (row_length d.params) none in omega (arith, one))
    | inr s ↦ (let frame = row_is_frame d.params s.buffer bytes some_words s.bytes_are in
        let few = short_frame d cluster s.node s.number s.plan s.buffer s.plan_at s.at in
        omega (arith, frame, few))
  ]

  abbrev Before : List ℕ → Type 0
  Before counts = first_minislot d.params counts ≤ length counts + (d.params.minislots + 300)

  before_next : (before : List ℕ) (bytes : ℕ) → Before before → IsRow d cycle channel before bytes
      → Before (before ++ bytes ∷ [])
  before_next before bytes few row =
      let within : first_minislot d.params before ≤ d.params.minislots = leb-true (first_minislot d.params before)
      d.params.minislots (both_first (nat_le (first_minislot d.params before) d.params.minislots) _ row.0) in
      omega (arith, within, first_more d.params before bytes, short_row before bytes row)

  way_before : (counts : List ℕ) → IsWay d cycle channel counts → Before counts
  way_before counts way =
      AllAfter-induction (IsRow d cycle channel) Before [] counts (omega arith) before_next way

  -- ---- the last minislots

  -- on each way the slot begins at the last minislot of the table or before it
  pub begins_by : (counts : List ℕ) → IsWay d cycle channel counts
      → first_minislot d.params counts ≤ last_begin d channel cycle (length counts)
  begins_by counts way =
      greatest_bounds (can_begin d channel cycle (length counts)) (horizon d.params (length counts))
      (first_minislot d.params counts) (way_before counts way) (way_begins d some_words cycle channel counts way)

  slots_are : (counts : List ℕ) (slot : ℕ) → slot_after d.params counts ≡ slot
      → length counts ≡ slots_before d.params slot
  slots_are counts slot is = omega (arith, is)

  pub opens_by : (slot latest : ℕ) → last_begin d channel cycle (slots_before d.params slot) ≤ latest
      → OpensBy d cycle channel slot latest
  opens_by slot latest few counts way is =
      let last = begins_by counts way in
      let same = ap (last_begin d channel cycle) (slots_are counts slot is) in
      omega (arith, last, same, few)

  -- after silent slots
  silent : (earlier minislot more : ℕ) → can_begin d channel cycle earlier minislot ≡ true
      → can_begin d channel cycle (earlier + more) (minislot + more) ≡ true
  silent earlier minislot zero can =
      let slots : earlier + 0 ≡ earlier = omega arith in
      let place : minislot + 0 ≡ minislot = omega arith in
      ap (λ (n : ℕ). can_begin d channel cycle n (minislot + 0)) slots
      ∙ ap (can_begin d channel cycle earlier) place ∙ can
  silent earlier minislot (suc more) can =
      let before = silent earlier minislot more can in
      let slots : earlier + suc more ≡ (earlier + more) + 1 = omega arith in
      let place : minislot + suc more ≡ (minislot + more) + 1 = omega arith in
      let back : (minislot + more) + 1 - 1 ≡ minislot + more = omega arith in
      ap (λ (n : ℕ). can_begin d channel cycle n (minislot + suc more)) slots
      ∙ ap (can_begin d channel cycle ((earlier + more) + 1)) place
      ∙ begins_more d channel cycle (earlier + more) ((minislot + more) + 1)
      ∙ or_left (can_begin d channel cycle (earlier + more) ((minislot + more) + 1 - 1)) _
      (ap (can_begin d channel cycle (earlier + more)) back ∙ before)

  -- a slot whose last minislot is in the segment always opens
  pub always_opens : (slot : ℕ) → last_begin d channel cycle (slots_before d.params slot) ≤ d.params.minislots
      → AlwaysOpens d cycle channel slot
  always_opens slot few counts way earlier =
      let more = slot - slot_after d.params counts in
      let first = first_minislot d.params counts in
      let slots : length counts + more ≡ slots_before d.params slot = omega (arith, earlier) in
      let can = silent (length counts) first more (way_begins d some_words cycle channel counts way) in
      let bound : first + more ≤ horizon d.params (length counts + more) =
      (let near = way_before counts way in omega (arith, near)) in
      let last = greatest_bounds (can_begin d channel cycle (length counts + more))
      (horizon d.params (length counts + more)) (first + more) bound can in
      let same = ap (last_begin d channel cycle) slots in
      omega (arith, last, same, few)
