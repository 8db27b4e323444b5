-- The worst latency of the table is that of a run.
use Rattle.std.proofs.Common.{◌≡◌, ℕ, zero, suc, ◌+◌, ◌-◌, ◌*◌, ◌%◌, ◌<◌, ◌≤◌, ◌==◌, Bool, true, false, not, cond, ◌&&◌}
use Rattle.std.proofs.Common.{◌||◌, ◌⊎◌, inl, inr, Option, Some, None, refl, sym, ap, subst, ◌∙◌, arith}
use Rattle.std.specs.Prelude.{max, nat_le}
use Rattle.std.proofs.lemmas.Bool.{leb-false, leb-true}
use Rattle.std.proofs.lemmas.Bool.Decides.{eqb_tells}
use Rattle.std.proofs.lemmas.Nat.{mod_below}
use Rattle.std.proofs.Math.Nat.{add-mul, mul-le-mul_right, max-eq_left, max-eq_right}
use Rattle.fr_bus.specs.Courses.{opportunities}
use Rattle.fr_core.proofs.CaseLemmas.{both_first, both_rest}
use Rattle.fr_guarantees.proofs.DelayLemmas.{first_is}
use Rattle.fr_guarantees.proofs.ReachLemmas.{reached}
use Rattle.fr_guarantees.proofs.StaticReachLemmas.{reached_static}
use Rattle.fr_guarantees.specs.Delays.{IsDelayed, AreAllReached, AreReached, IsEachWorstReached, IsWorstReached}
use Rattle.fr_guarantees.specs.Delays.{calls_between, calls_to_delay, cycles_after}
use Rattle.fr_guarantees.specs.Exactness.{HasRoom}
use Rattle.fr_latency.specs.Below.{all_below, any_below, most_below, sum_below}
use Rattle.fr_latency.specs.declared.latency.State.TheVariants.{Guaranteed}
use Rattle.fr_latency.specs.Latencies.{before_slot, channel_of, earliest_start, has_tasks, is_after, is_always_in_time}
use Rattle.fr_latency.specs.Latencies.{is_guaranteed, is_possible, latest_end, state_by, unless_zero, wait_from}
use Rattle.fr_latency.specs.Latencies.{wait_if, worst_latency, worst_of}
use Rattle.fr_schedule.specs.Clusters.{IsCluster}
use Rattle.fr_schedule.specs.Descriptions.{Description}
use Rattle.fr_slots.proofs.PlaceLemmas.{same_some}
use Rattle.fr_slots.specs.Admission.{cycle_admitted}
use Rattle.fr_slots.specs.declared.plan.Buffer.{Buffer}
use Rattle.fr_slots.specs.Numbers.{cycle_count}
use Rattle.fr_slots.specs.Parameters.{is_static_slot}
use Rattle.fr_slots.specs.Plans.{Plan}

-- ---- numbers below a number

all_at : (test : ℕ → Bool) (many k : ℕ) → all_below test many ≡ true → k < many → test k ≡ true
unfolding all_below
all_at test zero k all below = absurd (let none : ⊥ = omega (arith, below) in none)
all_at test (suc many) k all below = elim (eqb_tells k many) [
  | inl same ↦ ap test same.1 ∙ both_rest (all_below test many) (test many) all
  | inr other ↦ all_at test many k (both_first (all_below test many) (test many) all) (omega (arith, below, other.1))
]

-- a number has the greatest value, unless that is 0
record IsMost (value : ℕ → ℕ) (many : ℕ) : Type 0 where
  place : ℕ
  below : place < many
  is : value place ≡ most_below value many

most_at : (value : ℕ → ℕ) (many : ℕ) → (most_below value many ≡ 0) ⊎ IsMost value many
unfolding most_below
most_at value zero = inl refl
most_at value (suc many) = by (nat_le (most_below value many) (value many)) refl (most_at value many)
  where
    by : (b : Bool) → nat_le (most_below value many) (value many) ≡ b
        → ((most_below value many ≡ 0) ⊎ IsMost value many)
        → ((max (most_below value many) (value many) ≡ 0) ⊎ IsMost value (suc many))
    by true e rest = inr (record {
      place = many;
      below = omega arith;
      is = sym (max-eq_right (leb-true (most_below value many) (value many) e));
    })
    by false e (inl none) = (let above = leb-false (most_below value many) (value many) e in
        absurd (let no : ⊥ = omega (arith, above, none) in no))
    by false e (inr most) =
        let above = leb-false (most_below value many) (value many) e in
        let earlier = most.below in
        inr (record {
          place = most.place;
          below = omega (arith, earlier);
          is = most.is ∙ sym (max-eq_left (let low : value many ≤ most_below value many = omega (arith, above) in low));
        })

-- ---- a guaranteed buffer

state_all : (tasks all ever : Bool) → state_by tasks all ever ≡ Guaranteed → (tasks ≡ true) × (all ≡ true)
state_all true true ever e = (refl, refl)
state_all true false true e = absurd (let none : ⊥ = cc in none)
state_all true false false e = absurd (let none : ⊥ = cc in none)
state_all false all ever e = absurd (let none : ⊥ = cc in none)

from_either : (p q : Bool) → (not p || q) ≡ true → p ≡ true → q ≡ true
from_either true q e f = e
from_either false q e f = absurd (let none : ⊥ = cc in none)

has_worst : (tasks : Bool) (value : Option ℕ) (worst : ℕ) → cond tasks value None ≡ Some worst → tasks ≡ true
has_worst true value worst is = refl
has_worst false value worst is = absurd (let none : ⊥ = cc in none)

some_number : (n m : ℕ) → unless_zero n ≡ Some m → (n ≡ m) × ((n ≡ 0) → ⊥)
some_number n m e = by (n == 0) refl e
  where
    by : (b : Bool) → (n == 0) ≡ b → cond b None (Some n) ≡ Some m → (n ≡ m) × ((n ≡ 0) → ⊥)
    by true is f = absurd (let none : ⊥ = cc in none)
    by false is f = (
      same_some n m f,
      λ none. (let no : (n == 0) ≡ true = ap (λ (k : ℕ). k == 0) none in let not_so : ⊥ = cc in not_so),
    )

less_room : (d : Description) (cycles calls : ℕ) → cycles ≤ 128 → HasRoom d 128 calls → HasRoom d cycles calls
less_room d cycles calls few room = record {
  for_windows = λ n plan at. (
      let enough = room.for_windows n plan at in
      let fewer : cycles * opportunities d.params ≤ 128 * opportunities d.params =
      mul-le-mul_right (opportunities d.params) few in
      omega (arith, enough, fewer));
  for_calls = room.for_calls;
}

module _ (d : Description) (lawful : IsCluster d) (n number : ℕ) (plan : Plan) (b : Buffer) where
  abbrev passes : ℕ → Bool
  passes = is_guaranteed d plan b

  abbrev wait : ℕ → ℕ
  wait = wait_from d.params.cycle_mt passes (earliest_start d b) (latest_end d b)

  abbrev value : ℕ → ℕ
  value = wait_if d.params.cycle_mt passes (earliest_start d b) (latest_end d b)

  record IsWait (worst : ℕ) : Type 0 where
    cycle : ℕ
    few : cycle < 64
    guaranteed : passes cycle ≡ true
    is : wait cycle ≡ worst

  waits_so : (worst : ℕ) → has_tasks plan ≡ true → worst_latency d plan b ≡ Some worst → IsWait worst
  waits_so worst tasks is =
      let number_is = some_number (worst_of d plan b) worst
      (ap (λ (t : Bool). cond t (unless_zero (worst_of d plan b)) None) (sym tasks) ∙ is) in
      elim (most_at value cycle_count) [
        | inl none ↦ absurd (number_is.1 none)
        | inr most ↦ by most (passes most.place) refl number_is
      ]
    where
      by : (most : IsMost value cycle_count) (t : Bool) → passes most.place ≡ t
          → ((worst_of d plan b ≡ worst) × ((worst_of d plan b ≡ 0) → ⊥)) → IsWait worst
      by most true e number_is = record {
        cycle = most.place;
        few = most.below;
        guaranteed = e;
        is = ap (λ (t : Bool). cond t (wait most.place) 0) (sym e) ∙ most.is ∙ number_is.0;
      }
      by most false e number_is = absurd (number_is.1 (sym most.is
          ∙ ap (λ (t : Bool). cond t (wait most.place) 0) e))

-- ---- the calls in the cycles between

sum_most : (value : ℕ → ℕ) (most many : ℕ) → ((k : ℕ) → value k ≤ most) → sum_below value many ≤ many * most
unfolding sum_below
sum_most value most zero each = omega arith
sum_most value most (suc many) each =
    omega (arith, sum_most value most many each, each many, add-mul many 1 most)

sum_none : (value : ℕ → ℕ) (many : ℕ) → ((k : ℕ) → value k ≡ 0) → sum_below value many ≡ 0
unfolding sum_below
sum_none value zero each = refl
sum_none value (suc many) each = omega (arith, sum_none value many each, each many)

few_to_delay : (d : Description) (plan : Plan) (b : Buffer) (cycle : ℕ)
    → calls_to_delay d plan b cycle ≤ 3 * before_slot d b
few_to_delay d plan b cycle = by (cycle_admitted b.filter.cycles cycle && not (is_guaranteed d plan b cycle))
  where
    by : (t : Bool) → cond t (3 * before_slot d b) 0 ≤ 3 * before_slot d b
    by true = omega arith
    by false = omega arith

-- no calls, where each cycle of the buffer is guaranteed
none_to_delay : (admitted passes : Bool) (calls : ℕ) → (admitted ≡ true → passes ≡ true)
    → cond (admitted && not passes) calls 0 ≡ 0
none_to_delay true true calls always = refl
none_to_delay true false calls always = absurd (let wrong = always refl in let none : ⊥ = cc in none)
none_to_delay false passes calls always = refl

-- ---- the worst waits

-- from each guaranteed cycle the worst wait is that of a run
pub each_reached : (d : Description) → IsCluster d → AreAllReached d
each_reached d lawful n number plan b plan_at some_task at transmitting c few guaranteed room =
    by (is_static_slot d.params b.filter.slot) refl
  where
    fewer : HasRoom d (c + cycles_after d plan b c + 1) (6 * before_slot d b + 1)
    fewer = record {
      for_windows = room.for_windows;
      for_calls = λ m other known. (let enough = room.for_calls m other known in omega (arith, enough));
    }

    by : (t : Bool) → is_static_slot d.params b.filter.slot ≡ t
        → IsDelayed d n number b (channel_of b.filter.channels) (c + cycles_after d plan b c + 1)
        (wait_from d.params.cycle_mt (is_guaranteed d plan b) (earliest_start d b) (latest_end d b) c)
    by true static =
        reached_static d lawful n number plan b plan_at some_task at transmitting static c few
        (both_first (cycle_admitted b.filter.cycles c)
        (is_static_slot d.params b.filter.slot || is_always_in_time d plan b c) guaranteed) fewer
    by false dynamic =
        reached d lawful n number plan b plan_at some_task at transmitting dynamic c few guaranteed room

-- each worst wait of a guaranteed buffer is that of a run
pub all_reached : (d : Description) → IsCluster d → AreReached d
all_reached d lawful n number plan b plan_at some_task at transmitting always c few admitted room =
    each_reached d lawful n number plan b plan_at some_task at transmitting c few (always c few admitted) (record {
      for_windows = room.for_windows;
      for_calls = λ m other known. (
          let enough = room.for_calls m other known in
          let none = no_calls in
          omega (arith, enough, none));
    })
  where
    no_calls : calls_between d plan b c ≡ 0
    no_calls = sum_none (λ k. calls_to_delay d plan b ((c + 1 + k) % 64)) (cycles_after d plan b c - 1) (λ k.
        let cycle = (c + 1 + k) % 64 in
        none_to_delay (cycle_admitted b.filter.cycles cycle) (is_guaranteed d plan b cycle) (3 * before_slot d b)
        (always cycle (mod_below (c + 1 + k) 64 (omega arith))))

-- the worst latency of each buffer that has one is that of a run
pub each_worst_reached : (d : Description) → IsCluster d → IsEachWorstReached d
each_worst_reached d lawful n number plan b plan_at at transmitting worst is room =
    let tasks = has_worst (has_tasks plan) (unless_zero (worst_of d plan b)) worst is in
    let w = waits_so d lawful n number plan b worst tasks is in
    let c = w.cycle in
    let step = (first_is (is_after (is_guaranteed d plan b) c) 1 63).to in
    let below = w.few in
    let few : c + cycles_after d plan b c + 1 ≤ 128 = omega (arith, below, step) in
    let sum = sum_most (λ k. calls_to_delay d plan b ((c + 1 + k) % 64)) (3 * before_slot d b)
    (cycles_after d plan b c - 1) (λ k. few_to_delay d plan b ((c + 1 + k) % 64)) in
    let most : (cycles_after d plan b c - 1) * (3 * before_slot d b) ≤ 63 * (3 * before_slot d b) =
    mul-le-mul_right (3 * before_slot d b) (omega (arith, step)) in
    let fits = less_room d (c + cycles_after d plan b c + 1) (65 * (3 * before_slot d b) + 1) few room in
    record {
      cycles = c + cycles_after d plan b c + 1;
      few = few;
      delayed = subst (λ (delay : ℕ). IsDelayed d n number b (channel_of b.filter.channels)
          (c + cycles_after d plan b c + 1) delay) w.is
          (each_reached d lawful n number plan b plan_at (leb-true 1 plan.tasks tasks) at transmitting c w.few
          w.guaranteed (record {
            for_windows = fits.for_windows;
            for_calls = λ m other known. (
                let enough = fits.for_calls m other known in
                omega (arith, enough, sum, most));
          }));
    }

-- the worst latency of a guaranteed buffer is that of a run
pub worst_reached : (d : Description) → IsCluster d → IsWorstReached d
worst_reached d lawful n number plan b plan_at at transmitting state worst is room =
    let parts = state_all (has_tasks plan)
    (all_below (λ cycle. not (cycle_admitted b.filter.cycles cycle) || is_guaranteed d plan b cycle) cycle_count)
    (any_below (is_possible d plan b) cycle_count) state in
    let w = waits_so d lawful n number plan b worst parts.0 is in
    let c = w.cycle in
    let step = (first_is (is_after (is_guaranteed d plan b) c) 1 63).to in
    let below = w.few in
    let few : c + cycles_after d plan b c + 1 ≤ 128 = omega (arith, below, step) in
    let some_task = leb-true 1 plan.tasks parts.0 in
    record {
      cycles = c + cycles_after d plan b c + 1;
      few = few;
      delayed = subst (λ (delay : ℕ). IsDelayed d n number b (channel_of b.filter.channels)
          (c + cycles_after d plan b c + 1) delay) w.is
          (all_reached d lawful n number plan b plan_at some_task at transmitting
          (λ cycle inside mine. from_either (cycle_admitted b.filter.cycles cycle) (is_guaranteed d plan b cycle)
          (all_at (λ k. not (cycle_admitted b.filter.cycles k) || is_guaranteed d plan b k) cycle_count cycle parts.1
          inside) mine) c w.few
          (both_first (cycle_admitted b.filter.cycles c)
          (is_static_slot d.params b.filter.slot || is_always_in_time d plan b c) w.guaranteed)
          (less_room d (c + cycles_after d plan b c + 1) (6 * before_slot d b + 1) few room));
    }
