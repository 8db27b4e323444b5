-- Frames in time have no finding of times: the numbers.
use Rattle.std.proofs.Common.{◌≡◌, ℕ, ℤ, pos, ◌+◌, ◌-◌, ◌*◌, ◌<◌, ◌≤◌, Bool, true, false, None, refl, ap, ◌∙◌, arith}
use Rattle.std.proofs.lemmas.Bool.{cond-true, cond-false, le-leb, le-ltb, leb-true}
use Rattle.std.proofs.lemmas.Int.{ints}
use Rattle.std.proofs.lemmas.Nat.{mul-le}
use Rattle.std.specs.Prelude.{◌-ℤ◌, int_lt, unsigned_abs, nat_lt, nat_le}
use Rattle.fr_hearing.specs.Schedule.{Timeline, IsTimeline, slot_length, cycle_length, slot_begins, AreNear, IsInCycle}
use Rattle.fr_hearing.specs.Schedule.{IsTimelyAs, IsTimely, EvenIsTimeline}
use Rattle.fr_judging.specs.Distances.{time_between, rounds_by, rounds_of, due_time, agrees, distance_with, distance_by}
use Rattle.fr_judging.specs.Distances.{by_counts, is_long, time_off}
use Rattle.fr_slots.specs.Parameters.{Parameters, IsParameters, macroticks_of}

-- ---- whole numbers of slots

more_slots : (k n s : ℕ) → (k + n) * s ≡ k * s + n * s
more_slots k n s = omega arith

slots_apart : (a b s : ℕ) → 1 ≤ a → a ≤ b → (b - 1) * s ≡ (b - a) * s + (a - 1) * s
slots_apart a b s some le =
    let e : b - 1 ≡ (b - a) + (a - 1) = omega (arith, some, le) in
    ap (λ (n : ℕ). n * s) e ∙ more_slots (b - a) (a - 1) s

slot_before : (a s : ℕ) → 1 ≤ a → (a - 1) * s + s ≡ a * s
slot_before a s some =
    let e : (a - 1) + 1 ≡ a = omega (arith, some) in
    let whole : ((a - 1) + 1) * s ≡ a * s = ap (λ (n : ℕ). n * s) e in
    omega (arith, whole)

by_tick : (n s c tick : ℕ) → n * s ≤ c → n * (s * tick) ≤ c * tick
by_tick n s c tick le =
    let whole : (n * s) * tick ≤ c * tick = mul-le (n * s) tick c tick le (omega arith) in
    omega (arith, whole)

-- ---- signed numbers

not_long : (c from to : ℕ) → 1 ≤ c → to ≤ from + 2 * c → is_long c (pos to -ℤ pos from) ≡ false
not_long c from to some near = grind (arith, ints)

abs_of : (t from due e : ℕ) → t ≤ from + due + e → from + due ≤ t + e
    → unsigned_abs ((pos t -ℤ pos from) -ℤ pos due) ≤ e
abs_of t from due e above below = omega (arith, ints)

between_of : (s a b c e from to : ℕ) → to + a * s ≤ from + b * s + c + e → from + b * s + c ≤ to + a * s + e
    → unsigned_abs (time_between s a b (pos from) (pos to) -ℤ pos c) ≤ e
between_of s a b c e from to above below = omega (arith, ints)

no_rounds : (c e : ℕ) (x : ℤ) → e < 32 * c → unsigned_abs (x -ℤ pos c) ≤ e
    → int_lt (x -ℤ pos c) (pos (32 * c)) ≡ true
no_rounds c e x few near = grind (arith, ints)

-- ---- the distance of two cycles

one_cycle : (c e : ℕ) (x : ℤ) → 4 * e ≤ c → 1 ≤ c → unsigned_abs (x -ℤ pos c) ≤ e
    → distance_by c 1 x ≡ by_counts 1
one_cycle c e x few some near =
    let once : 1 * c ≡ c = omega arith in
    let rounds : rounds_of c 1 x ≡ 0 =
    ap (λ (n : ℕ). rounds_by c (x -ℤ pos n)) once
    ∙ cond-true (int_lt (x -ℤ pos c) (pos (32 * c))) 0 _ (no_rounds c e x (omega (arith, few, some)) near) in
    let due : due_time c 1 0 ≡ c = omega arith in
    let close : agrees c x (due_time c 1 0) ≡ true =
    ap (λ (n : ℕ). agrees c x n) due
    ∙ le-leb (4 * unsigned_abs (x -ℤ pos c)) c (omega (arith, near, few)) in
    ap (distance_with c 1 x) rounds
    ∙ cond-true (agrees c x (due_time c 1 0)) (by_counts 1) _ close

-- ---- the sizes of slots and cycles

record Sizes (p : Parameters) (tick : ℕ) : Type 0 where
  some_slot : 1 ≤ p.static_mt * tick
  two_slots : 2 * (p.static_mt * tick) ≤ p.cycle_mt * tick
  all_slots : p.static_slots * (p.static_mt * tick) ≤ p.cycle_mt * tick

sizes_of : (p : Parameters) (tick : ℕ) → IsParameters p → 1 ≤ tick → Sizes p tick
sizes_of p tick lawful some_tick =
    let some_mt : 1 ≤ p.static_mt = lawful.static_mt_fit.from_least in
    let two : 2 ≤ p.static_slots = lawful.static_slots_fit.from_least in
    let fills : macroticks_of p ≡ p.cycle_mt = lawful.fills_the_cycle in
    let some : 1 * 1 ≤ p.static_mt * tick = mul-le 1 1 p.static_mt tick some_mt some_tick in
    let static : p.static_slots * p.static_mt ≤ p.cycle_mt = omega (arith, fills) in
    let least : 2 * p.static_mt ≤ p.static_slots * p.static_mt =
    mul-le 2 p.static_mt p.static_slots p.static_mt two (omega arith) in
    record {
      some_slot = some;
      two_slots = by_tick 2 p.static_mt p.cycle_mt tick (omega (arith, static, least));
      all_slots = by_tick p.static_slots p.static_mt p.cycle_mt tick static;
    }

next_start : (start cycle c : ℕ) → start + (cycle + 1) * c ≡ start + cycle * c + c
next_start start cycle c = omega arith

pub even_is_timeline : EvenIsTimeline
even_is_timeline p macrotick start slack lawful some few =
    let size = sizes_of p macrotick lawful some in
    let two = size.two_slots in
    record {
      some_length = some;
      tolerable = few;
      steady = λ cycle. (let next = next_start start cycle (p.cycle_mt * macrotick) in
          let near : AreNear 0 (start + (cycle + 1) * (p.cycle_mt * macrotick))
          (start + cycle * (p.cycle_mt * macrotick) + p.cycle_mt * macrotick) =
          record { not_late = omega (arith, next); not_early = omega (arith, next) } in
          near);
      little_drift = omega (arith, few, two);
    }

-- ---- the schedule

module _ (p : Parameters) (t : Timeline) (lawful : IsParameters p) (is : IsTimeline p t) where
  sizes : Sizes p t.macrotick
  sizes = sizes_of p t.macrotick lawful is.some_length

  -- a static frame comes in its cycle, too
  pub in_cycle : (cycle slot time : ℕ) → IsTimely p t cycle slot time → IsInCycle p t cycle time
  in_cycle cycle slot time timely = by (nat_le slot p.static_slots) refl timely
    where
      by : (b : Bool) → nat_le slot p.static_slots ≡ b → IsTimelyAs p t cycle slot time b → IsInCycle p t cycle time
      by false e within = within
      by true e near =
          let few : slot ≤ p.static_slots = leb-true slot p.static_slots e in
          let before : (slot - 1) * slot_length p t ≤ p.static_slots * slot_length p t =
          mul-le (slot - 1) (slot_length p t) p.static_slots (slot_length p t) (omega (arith, few)) (omega arith) in
          let all : p.static_slots * slot_length p t ≤ cycle_length p t = sizes.all_slots in
          let late = near.not_late in
          let early = near.not_early in
          record { not_early = omega (arith, early); not_late = omega (arith, late, before, all) }

  -- frames of a cycle don't come 63 cycles apart
  pub soon : (cycle from to : ℕ) → IsInCycle p t cycle from → IsInCycle p t cycle to
      → is_long (cycle_length p t) (pos to -ℤ pos from) ≡ false
  soon cycle from to a b =
      let some = sizes.some_slot in
      let two = sizes.two_slots in
      let few = is.tolerable in
      let early = a.not_early in
      let late = b.not_late in
      not_long (cycle_length p t) from to (omega (arith, some, two)) (omega (arith, some, two, few, early, late))

  -- static frames of a cycle are as far apart as their slots
  pub in_time : (cycle a b from to : ℕ) → 1 ≤ a → a ≤ b → AreNear t.slack from (slot_begins p t cycle a)
      → AreNear t.slack to (slot_begins p t cycle b)
      → time_off (slot_length p t) ((b - a) * slot_length p t) (pos to -ℤ pos from) ≡ None
  in_time cycle a b from to some le x y =
      let apart = slots_apart a b (slot_length p t) some le in
      let few = is.tolerable in
      let from_late = x.not_late in
      let from_early = x.not_early in
      let to_late = y.not_late in
      let to_early = y.not_early in
      let off : ℕ = unsigned_abs ((pos to -ℤ pos from) -ℤ pos ((b - a) * slot_length p t)) in
      let close : off ≤ 2 * t.slack =
      abs_of to from ((b - a) * slot_length p t) (2 * t.slack) (omega (arith, apart, to_late, from_early))
      (omega (arith, apart, to_early, from_late)) in
      cond-false (nat_lt (slot_length p t) (2 * off)) _ None
      (le-ltb (slot_length p t) (2 * off) (omega (arith, close, few)))

  -- static frames of neighbouring cycles are a cycle apart, but for their slots
  pub in_step : (cycle a b from to : ℕ) → 1 ≤ a → 1 ≤ b → AreNear t.slack from (slot_begins p t cycle a)
      → AreNear t.slack to (slot_begins p t (cycle + 1) b)
      → distance_by (cycle_length p t) 1 (time_between (slot_length p t) a b (pos from) (pos to)) ≡ by_counts 1
  in_step cycle a b from to some_a some_b x y =
      let s : ℕ = slot_length p t in
      let c : ℕ = cycle_length p t in
      let before_a = slot_before a (slot_length p t) some_a in
      let before_b = slot_before b (slot_length p t) some_b in
      let few = is.little_drift in
      let some = sizes.some_slot in
      let two = sizes.two_slots in
      let slower = (is.steady cycle).not_late in
      let faster = (is.steady cycle).not_early in
      let from_late = x.not_late in
      let from_early = x.not_early in
      let to_late = y.not_late in
      let to_early = y.not_early in
      one_cycle (cycle_length p t) (2 * t.slack + t.drift)
      (time_between (slot_length p t) a b (pos from) (pos to))
      is.little_drift (omega (arith, some, two))
      (between_of (slot_length p t) a b (cycle_length p t) (2 * t.slack + t.drift) from to
      (omega (arith, before_a, before_b, from_early, to_late, slower))
      (omega (arith, before_a, before_b, from_late, to_early, faster)))
