-- The lanes that a run can have come to the minislots at which slots can begin, and to no others.
use Rattle.std.proofs.Common.{◌≡◌, ℕ, zero, suc, ◌+◌, ◌-◌, ◌*◌, ◌/◌, ◌%◌, ◌≤◌, ◌⊎◌, Bool, true, false, eqb, leb}
use Rattle.std.proofs.Common.{List, [], ◌∷◌, ◌++◌, length, refl, sym, ap, ap₂, ◌∙◌, subst, arith, inl, inr, Some}
use Rattle.std.proofs.Common.{slice_get}
use Rattle.std.specs.Int.{div_ceil}
use Rattle.std.specs.List.{list_any}
use Rattle.std.proofs.Math.Nat.{mul-div-mul_left, mod-eq-sub-mul-div}
use Rattle.std.proofs.lemmas.Bool.{and_from, and_parts, cond-false, eqb-true, leb-true, le-leb, ne_eqb, or_cases}
use Rattle.std.proofs.lemmas.Bool.{or_left, or_right}
use Rattle.std.proofs.lemmas.Bool.{true≢false}
use Rattle.std.proofs.lemmas.List.{length_push}
use Rattle.std.proofs.lemmas.List.Sums.{sum_by_push}
use Rattle.fr_minislot.specs.DynamicRows.{first_minislot, row_length}
use Rattle.fr_minislot.specs.DynamicRows as rows
use Rattle.fr_latency.specs.Openings.{opens, slots_before}
use Rattle.std.proofs.Common.{◌<◌, ◌&&◌, cond, None, length-append, append_assoc}
use Rattle.std.proofs.lemmas.Bool.{cond-true, eq-eqb}
use Rattle.std.proofs.lemmas.List.Sums.{sum_by-append}
use Rattle.fr_slots.specs.declared.channel.Channel.{Channel}
use Rattle.fr_slots.specs.declared.plan.Buffer.{Buffer}
use Rattle.fr_slots.proofs.HistoryLemmas.{AllAfter-induction, AllAfter-snoc}
use Rattle.fr_slots.specs.Faults.{latest_on, sends_at, words_of}
use Rattle.fr_slots.specs.History.{AllAfter}
use Rattle.fr_slots.specs.Parameters.{Parameters}
use Rattle.fr_schedule.specs.Clusters.{IsCluster}
use Rattle.fr_schedule.specs.Descriptions.{Description}
use Rattle.std.proofs.Common.{Result, Ok, Err}
use Rattle.std.specs.Prelude.{IfOk, Vec}
use Rattle.std.specs.declared.alloc.Global.{Global}
use Rattle.fr_latency.specs.declared.openings.Row.{Row}
use Rattle.fr_latency.specs.Exact.{AreExactRows}
use Rattle.fr_latency.specs.Rows.{AreRows}
use Rattle.fr_latency.specs.Lanes.{CanSend, IsLane, IsLatest, Opens, Reaches, AreLanes, frame_bytes}
use Rattle.fr_latency.specs.Openings.{can_begin, follows_buffer, follows_node, frame_length, horizon, last_begin}
use Rattle.fr_latency.specs.Openings.{slot_after}
use Rattle.fr_latency.proofs.BeginLemmas.{begins_more, begins_none}
use Rattle.fr_latency.proofs.GreatestLemmas.{greatest_bounds}
use Rattle.fr_latency.proofs.UsedLemmas.{any_at, ends_by}
use Rattle.fr_latency.proofs.WayLemmas.{begins_last, begins_late}
use Rattle.std.proofs.lemmas.Bool.{cases_lt}

-- ---- the row of a frame

twice : (a n : ℕ) → div_ceil (2 * a) (2 * n) ≡ div_ceil a n
twice a n =
    let quotient : (2 * a) / (2 * n) ≡ a / n = mul-div-mul_left {m = 2} a n (omega arith) in
    let twice_rest = mod-eq-sub-mul-div (2 * a) (2 * n) ∙ ap (λ q. 2 * a - 2 * n * q) quotient in
    let rest : (2 * a) % (2 * n) ≡ 2 * (a % n) = omega (arith, twice_rest, mod-eq-sub-mul-div a n) in
    omega (arith, quotient, rest)

-- a frame's row is as long as the frame, with idle minislots
row_is : (p : Parameters) (b : Buffer) → row_length p (frame_bytes p b) ≡ frame_length p b
row_is p b =
    let some : eqb (frame_bytes p b) 0 ≡ false = ne_eqb (frame_bytes p b) 0 (λ same. omega (arith, same)) in
    cond-false (eqb (frame_bytes p b) 0) 1 (div_ceil (frame_bytes p b) (2 * p.words_per_minislot) + p.idle) some
    ∙ ap (λ n. n + p.idle) (twice (words_of p b + 4) p.words_per_minislot)

minislot_more : (p : Parameters) (counts : List ℕ) (bytes : ℕ)
    → first_minislot p (counts ++ bytes ∷ []) ≡ first_minislot p counts + row_length p bytes
minislot_more p counts bytes = omega (arith, sum_by_push (row_length p) counts bytes)

-- ---- each lane

-- a lane comes to a minislot at which its next slot can begin
abbrev Comes : Description → Channel → ℕ → List ℕ → Type 0
Comes d on cycle counts = can_begin d on cycle (length counts) (first_minislot d.params counts) ≡ true

-- the slot after a row
after_row : (d : Description) (on : Channel) (cycle : ℕ) (counts : List ℕ) (bytes next : ℕ)
    → next ≡ first_minislot d.params counts + row_length d.params bytes
    → can_begin d on cycle (length counts + 1) next ≡ true → Comes d on cycle (counts ++ bytes ∷ [])
after_row d on cycle counts bytes next at begins =
    ap₂ (λ n m. can_begin d on cycle n m) (length_push counts bytes) (minislot_more d.params counts bytes ∙ sym at)
    ∙ begins

after_silence : (d : Description) (on : Channel) (cycle : ℕ) (counts : List ℕ) → Comes d on cycle counts
    → Comes d on cycle (counts ++ 0 ∷ [])
after_silence d on cycle counts comes =
    let m = first_minislot d.params counts in
    let less : m + 1 - 1 ≡ m = omega arith in
    after_row d on cycle counts 0 (m + 1) refl
    (begins_more d on cycle (length counts) (m + 1)
    ∙ or_left (can_begin d on cycle (length counts) (m + 1 - 1)) _
    (ap (can_begin d on cycle (length counts)) less ∙ comes))

after_frame : (d : Description) (on : Channel) (cycle : ℕ) (counts : List ℕ) (bytes : ℕ) → Comes d on cycle counts
    → CanSend d on cycle (rows.slot_after d.params counts) (first_minislot d.params counts) bytes
    → Comes d on cycle (counts ++ bytes ∷ [])
after_frame d on cycle counts bytes comes can =
    let p = d.params in
    let m = first_minislot p counts in
    let slot = slot_after p (length counts) in
    let test = can_begin d on cycle (length counts) in
    let size = frame_length p can.buffer in
    let less : m + size - size ≡ m = omega arith in
    let length_is : row_length p bytes ≡ size = ap (row_length p) can.bytes_are ∙ row_is p can.buffer in
    let in_time : leb (m + size - size) (latest_on can.plan on) ≡ true =
    ap (λ n. leb n (latest_on can.plan on)) less ∙ le-leb m (latest_on can.plan on) can.in_time in
    let follows : follows_buffer p slot on cycle test (m + size) can.plan can.buffer ≡ true =
    and_from (sends_at slot on cycle can.buffer) _ can.sends
    (and_from (leb (m + size - size) (latest_on can.plan on)) (test (m + size - size)) in_time (ap test less
    ∙ comes)) in
    let of_node : follows_node p slot on cycle test (m + size) can.plan ≡ true =
    and_from (leb 1 can.plan.tasks) _ (le-leb 1 can.plan.tasks can.has_tasks)
    (any_at (follows_buffer p slot on cycle test (m + size) can.plan) can.plan.buffers can.number can.buffer can.of_plan
    follows) in
    after_row d on cycle counts bytes (m + size) (ap (λ n. m + n) (sym length_is))
    (begins_more d on cycle (length counts) (m + size)
    ∙ or_right (test (m + size - 1)) _
    (any_at (follows_node p slot on cycle test (m + size)) d.plans can.node can.plan can.of_node of_node))

pub lanes_come : (d : Description) (on : Channel) (cycle : ℕ) (counts : List ℕ) → IsLane d on cycle counts
    → Comes d on cycle counts
lanes_come d on cycle counts is =
    AllAfter-induction
    (λ before bytes. (bytes ≡ 0)
    ⊎ CanSend d on cycle (rows.slot_after d.params before) (first_minislot d.params before) bytes)
    (Comes d on cycle) [] counts
    (begins_none d on cycle 1)
    (λ before bytes comes step.
    elim step as (λ _. Comes d on cycle (before ++ bytes ∷ [])) [
      | inl silent ↦
          subst (λ (n : ℕ). Comes d on cycle (before ++ n ∷ [])) (sym silent) (after_silence d on cycle before comes)
      | inr can ↦ after_frame d on cycle before bytes comes can
    ])
    is

-- ---- each minislot

-- an item that passes, with its place
pub record Found {X : Type 0} (test : X → Bool) (xs : List X) : Type 0 where
  pub place : ℕ
  pub item : X
  pub at : slice_get xs place ≡ Some item
  pub passes : test item ≡ true

pub found_in : {X : Type 0} (test : X → Bool) (xs : List X) → list_any test xs ≡ true → Found test xs
found_in test [] some = absurd (true≢false (sym some))
found_in test (x ∷ xs) some =
    elim (or_cases (test x) (list_any test xs) some) as (λ _. Found test (x ∷ xs)) [
      | inl here ↦ record { place = 0; item = x; at = refl; passes = here }
      | inr later ↦
          let found = found_in test xs later in
          record { place = suc found.place; item = found.item; at = found.at; passes = found.passes }
    ]

lane_more : (d : Description) (on : Channel) (cycle earlier minislot begin bytes : ℕ)
    (lane : Reaches d on cycle earlier begin)
    → ((bytes ≡ 0) ⊎ CanSend d on cycle (slot_after d.params earlier) begin bytes)
    → minislot ≡ begin + row_length d.params bytes → Reaches d on cycle (earlier + 1) minislot
lane_more d on cycle earlier minislot begin bytes lane step next = record {
  counts = lane.counts ++ bytes ∷ [];
  is_lane = (
    AllAfter-snoc (λ before bytes. (bytes ≡ 0)
        ⊎ CanSend d on cycle (rows.slot_after d.params before) (first_minislot d.params before) bytes)
        lane.counts bytes lane.is_lane.0
        (subst (λ (m : ℕ). (bytes ≡ 0) ⊎ CanSend d on cycle (rows.slot_after d.params lane.counts) m bytes)
        (sym lane.at)
        (subst (λ (n : ℕ). (bytes ≡ 0) ⊎ CanSend d on cycle (slot_after d.params n) begin bytes) (sym lane.is_lane.1)
        step)),
    length_push lane.counts bytes ∙ ap (λ n. n + 1) lane.is_lane.1,
  );
  at = minislot_more d.params lane.counts bytes ∙ ap (λ n. n + row_length d.params bytes) lane.at ∙ sym next;
}

frame_more : (d : Description) → IsCluster d → (on : Channel) (cycle earlier minislot : ℕ)
    → ((m : ℕ) → can_begin d on cycle earlier m ≡ true → Reaches d on cycle earlier m)
    → list_any (follows_node d.params (slot_after d.params earlier) on cycle (can_begin d on cycle earlier) minislot)
    d.plans ≡ true
    → Reaches d on cycle (earlier + 1) minislot
frame_more d is on cycle earlier minislot reach some =
    let p = d.params in
    let slot = slot_after p earlier in
    let test = can_begin d on cycle earlier in
    let node = found_in (follows_node p slot on cycle test minislot) d.plans some in
    let plan = node.item in
    let tasks = and_parts (leb 1 plan.tasks) _ node.passes in
    let buffer = found_in (follows_buffer p slot on cycle test minislot plan) plan.buffers tasks.1 in
    let b = buffer.item in
    let sends = and_parts (sends_at slot on cycle b) _ buffer.passes in
    let begin = minislot - frame_length p b in
    let in_time = and_parts (leb begin (latest_on plan on)) (test begin) sends.1 in
    let late = begins_late d on cycle earlier begin is in_time.1 in
    lane_more d on cycle earlier minislot begin (frame_bytes p b) (reach begin in_time.1)
    (inr (record {
      node = node.place;
      plan = plan;
      of_node = node.at;
      has_tasks = leb-true 1 plan.tasks tasks.0;
      number = buffer.place;
      buffer = b;
      of_plan = buffer.at;
      sends = sends.0;
      in_time = leb-true begin (latest_on plan on) in_time.0;
      bytes_are = refl;
    }))
    (omega (arith, late, row_is p b))

pub minislots_reached : (d : Description) → IsCluster d → (on : Channel) (cycle earlier minislot : ℕ)
    → can_begin d on cycle earlier minislot ≡ true → Reaches d on cycle earlier minislot
unfolding can_begin AllAfter
minislots_reached d is on cycle zero minislot begins = record {
  counts = [];
  is_lane = (tt, refl);
  at = sym (eqb-true minislot 1 begins);
}
minislots_reached d is on cycle (suc earlier) minislot begins =
    let test = can_begin d on cycle earlier in
    let whole : earlier + 1 ≡ suc earlier = omega arith in
    let reach : (m : ℕ) → can_begin d on cycle earlier m ≡ true → Reaches d on cycle earlier m =
    λ m before. minislots_reached d is on cycle earlier m before in
    subst (λ (n : ℕ). Reaches d on cycle n minislot) whole
    (elim (or_cases (test (minislot - 1)) _ begins) as (λ _. Reaches d on cycle (earlier + 1) minislot) [
      | inl silent ↦
          let late = begins_late d on cycle earlier (minislot - 1) is silent in
          lane_more d on cycle earlier minislot (minislot - 1) 0 (reach (minislot - 1) silent) (inl refl)
          (omega (arith, late))
      | inr sent ↦ frame_more d is on cycle earlier minislot reach sent
    ])

-- ---- slots that open

rows_before : (p : Parameters) (before rest : List ℕ) → first_minislot p (before ++ rest) ≤ p.minislots
    → rows.slot_after p (before ++ rest) ≤ rows.last_slot
    → AllAfter (λ counts count. rows.has_row_after p counts ≡ true) before rest
unfolding AllAfter
rows_before p before [] fits few = tt
rows_before p before (x ∷ rest) fits few =
    let sum = sum_by-append (row_length p) before (x ∷ rest) in
    let size = length-append before (x ∷ rest) in
    let grouped = append_assoc before (x ∷ []) rest in
    let here : rows.has_row_after p before ≡ true =
    and_from (leb (first_minislot p before) p.minislots) (leb (rows.slot_after p before) rows.last_slot)
    (le-leb (first_minislot p before) p.minislots (omega (arith, sum, fits)))
    (le-leb (rows.slot_after p before) rows.last_slot (omega (arith, size, few))) in (
      here,
      rows_before p (before ++ x ∷ []) rest
          (subst (λ (xs : List ℕ). first_minislot p xs ≤ p.minislots) (sym grouped) fits)
          (subst (λ (xs : List ℕ). rows.slot_after p xs ≤ rows.last_slot) (sym grouped) few),
    )

lane_opens : (d : Description) → IsCluster d → (on : Channel) (cycle slot minislot : ℕ) → d.params.static_slots < slot
    → opens d on cycle slot minislot ≡ true → Opens d on cycle slot minislot
lane_opens d is on cycle slot minislot dynamic open_there =
    let p = d.params in
    let parts = and_parts (rows.is_row p slot minislot) _ open_there in
    let row = and_parts (leb minislot p.minislots) (leb slot rows.last_slot) parts.0 in
    let lane = minislots_reached d is on cycle (slots_before p slot) minislot parts.1 in
    let counts = lane.counts in
    let slot_is : rows.slot_after p counts ≡ slot = omega (arith, lane.is_lane.1, dynamic) in
    let exists : rows.has_row_after p counts ≡ true =
    ap₂ (λ s m. rows.is_row p s m) slot_is lane.at ∙ parts.0 in
    let there : eqb (first_minislot p counts) minislot ≡ true = eq-eqb (first_minislot p counts) minislot lane.at in
    record {
      counts = counts;
      is_lane = lane.is_lane.0;
      are_rows = rows_before p [] counts (omega (arith, lane.at, leb-true minislot p.minislots row.0))
          (omega (arith, slot_is, leb-true slot rows.last_slot row.1));
      opened = cond-true (rows.has_row_after p counts && eqb (first_minislot p counts) minislot)
          (Some (rows.slot_after p counts)) None (and_from _ _ exists there)
          ∙ ap (λ (n : ℕ). Some n) slot_is;
    }

opened_lane : (d : Description) (on : Channel) (cycle slot minislot : ℕ) → d.params.static_slots < slot
    → Opens d on cycle slot minislot → opens d on cycle slot minislot ≡ true
opened_lane d on cycle slot minislot dynamic lane =
    let p = d.params in
    let counts = lane.counts in
    let test : Bool = rows.has_row_after p counts && eqb (first_minislot p counts) minislot in
    let told = some_cond test (rows.slot_after p counts) slot lane.opened in
    let parts = and_parts (rows.has_row_after p counts) (eqb (first_minislot p counts) minislot) told.0 in
    let at : first_minislot p counts ≡ minislot = eqb-true (first_minislot p counts) minislot parts.1 in
    let before : length counts ≡ slots_before p slot = omega (arith, told.1, dynamic) in
    and_from (rows.is_row p slot minislot) _
    (ap₂ (λ s m. rows.is_row p s m) (sym told.1) (sym at) ∙ parts.0)
    (ap₂ (λ n m. can_begin d on cycle n m) (sym before) (sym at) ∙ lanes_come d on cycle counts lane.is_lane)
  where
    some_cond : (test : Bool) (a b : ℕ) → cond test (Some a) None ≡ Some b → (test ≡ true) × (a ≡ b)
    some_cond true a b is = (refl, cc)
    some_cond false a b is = absurd (cc)

pub are_lanes : (d : Description) → IsCluster d → AreLanes d
are_lanes d is = record {
  begins = λ on cycle earlier minislot. (
    minislots_reached d is on cycle earlier minislot,
    λ (lane : Reaches d on cycle earlier minislot).
        ap₂ (λ n m. can_begin d on cycle n m) (sym lane.is_lane.1) (sym lane.at)
        ∙ lanes_come d on cycle lane.counts lane.is_lane.0,
  );
  opens = λ on cycle slot minislot dynamic. (
    lane_opens d is on cycle slot minislot dynamic,
    opened_lane d on cycle slot minislot dynamic,
  );
}

-- ---- the latest start

pub latest_is : (d : Description) → IsCluster d → (on : Channel) (cycle earlier : ℕ)
    → IsLatest d on cycle earlier (last_begin d on cycle earlier)
latest_is d is on cycle earlier =
    let lane = minislots_reached d is on cycle earlier (last_begin d on cycle earlier)
    (begins_last d on cycle earlier) in
    record {
      counts = lane.counts;
      is_lane = lane.is_lane;
      at = lane.at;
      none_later = λ others comes.
          let m = first_minislot d.params others in
          let begins : can_begin d on cycle earlier m ≡ true =
          ap (λ n. can_begin d on cycle n m) (sym comes.1) ∙ lanes_come d on cycle others comes.0 in
          elim (cases_lt (horizon d.params earlier) m) as (λ _. m ≤ last_begin d on cycle earlier) [
            | inl late ↦ absurd (true≢false (sym begins ∙ ends_by d is on cycle earlier m late))
            | inr few ↦ greatest_bounds (can_begin d on cycle earlier) (horizon d.params earlier) m few begins
          ];
    }

-- ---- the rows of a channel

exact_rows : (d : Description) → IsCluster d → (on : Channel) (rows : List Row) → AreRows d on rows
    → AreExactRows d on rows
exact_rows d is on rows are = λ earlier row at used cycle within.
    subst (λ (n : ℕ). IsLatest d on cycle earlier n) (sym ((are.each earlier row at used).begins cycle within))
    (latest_is d is on cycle earlier)

pub rows_are_exact : {E : Type 0} (d : Description) → IsCluster d → (on : Channel) (result : Result (Vec Row Global) E)
    → IfOk result (λ rows. AreRows d on rows.items) → IfOk result (λ rows. AreExactRows d on rows.items)
rows_are_exact d is on (Ok rows) are = exact_rows d is on rows.items are
rows_are_exact d is on (Err e) are = tt
