-- Each way of the lanes leads to a minislot at which the next slot can begin.
use Rattle.std.proofs.Common.{◌≡◌, ℕ, zero, suc, ◌+◌, ◌-◌, ◌*◌, ◌<◌, ◌≤◌, Bool, true, false, cond, inl, inr, List, []}
use Rattle.std.proofs.Common.{◌∷◌, ◌++◌, length, length-append, refl, sym, ap, subst, ◌∙◌, arith}
use Rattle.std.specs.Prelude.{◌==◌, nat_le}
use Rattle.std.specs.Int.{div_ceil}
use Rattle.std.specs.List.{list_any}
use Rattle.std.proofs.lemmas.Bool.{le-leb, leb-true, leb-false, ne_eqb, or_right, or_left}
use Rattle.std.proofs.lemmas.Grind.{div_ceil_times}
use Rattle.std.proofs.Math.Nat.{add-mul, mul-le-mul_right}
use Rattle.std.proofs.lemmas.List.Sums.{sum_by-append}
use Rattle.std.proofs.lemmas.Map.Keys.{any_passes_from_place}
use Rattle.fr_core.proofs.CaseLemmas.{both}
use Rattle.fr_guarantees.specs.Ways.{CanSend, IsRow, IsWay}
use Rattle.fr_latency.specs.Openings.{frame_length, follows_frame, follows_buffer, follows_node, follows, can_begin}
use Rattle.fr_minislot.specs.DynamicRows.{first_minislot, minislots_filled_by, row_length, slot_after}
use Rattle.fr_schedule.specs.Descriptions.{Description}
use Rattle.fr_slots.proofs.HistoryLemmas.{AllAfter-induction}
use Rattle.fr_slots.specs.declared.channel.Channel.{Channel}
use Rattle.fr_slots.specs.declared.plan.Buffer.{Buffer}
use Rattle.fr_slots.specs.Faults.{latest_on, sends_at, words_of}
use Rattle.fr_slots.specs.Parameters.{Parameters}

-- ---- lists and numbers

pub not_above : (x y n a : ℕ) → a ≤ x * n → y * n < a + n → y ≤ x
not_above x y n a low high = by (nat_le y x) refl
  where
    by : (b : Bool) → nat_le y x ≡ b → y ≤ x
    by true e = leb-true y x e
    by false e =
        let less : x + 1 ≤ y = (let above = leb-false y x e in omega (arith, above)) in
        let more : (x + 1) * n ≤ y * n = mul-le-mul_right n less in
        let sum : (x + 1) * n ≡ x * n + 1 * n = add-mul x 1 n in
        absurd (let none : ⊥ = omega (arith, low, high, more, sum) in none)

pub twice : (x n : ℕ) → x * (2 * n) ≡ 2 * (x * n)
twice zero n = omega arith
twice (suc x) n = omega (arith, twice x n)

-- halves of two numbers have their quotient, also if it is rounded up
pub div_ceil-halves : (a n : ℕ) → 0 < n → div_ceil (2 * a) (2 * n) ≡ div_ceil a n
div_ceil-halves a n some =
    let x = div_ceil (2 * a) (2 * n) in
    let y = div_ceil a n in
    let whole = div_ceil_times (2 * a) (2 * n) (omega (arith, some)) in
    let half = div_ceil_times a n some in
    let doubled = twice x n in
    let low : a ≤ x * n = omega (arith, whole.0, doubled) in
    let high : x * n < a + n = omega (arith, whole.1, doubled) in
    let up : y ≤ x = not_above x y n a low half.1 in
    let down : x ≤ y = not_above y x n a half.0 high in
    omega (arith, up, down)

-- the row of a frame is as long as the frame and the minislots that stay idle after it
pub row_is_frame : (p : Parameters) (b : Buffer) (bytes : ℕ) → 0 < p.words_per_minislot → bytes ≡ 8 + 2 * words_of p b
    → row_length p bytes ≡ frame_length p b
row_is_frame p b bytes some is =
    let double : bytes ≡ 2 * (words_of p b + 4) = omega (arith, is) in
    let other : (bytes == 0) ≡ false = ne_eqb bytes 0 (λ none. let no : ⊥ = omega (arith, is, none) in no) in
    ap (λ (t : Bool). cond t 1 (minislots_filled_by p bytes + p.idle)) other
    ∙ ap (λ (n : ℕ). n + p.idle) (ap (λ (n : ℕ). div_ceil n (2 * p.words_per_minislot)) double
    ∙ div_ceil-halves (words_of p b + 4) p.words_per_minislot some)

-- ---- one more row

pub first_more : (p : Parameters) (counts : List ℕ) (bytes : ℕ)
    → first_minislot p (counts ++ bytes ∷ []) ≡ first_minislot p counts + row_length p bytes
first_more p counts bytes = omega (arith, sum_by-append (row_length p) counts (bytes ∷ []))

module _ (d : Description) (some : 0 < d.params.words_per_minislot) (cycle : ℕ) (channel : Channel) where
  abbrev Begins : List ℕ → Type 0
  Begins counts = can_begin d channel cycle (length counts) (first_minislot d.params counts) ≡ true

  -- the next slot begins there after a silent slot
  after_silence : (before : List ℕ) (begins : ℕ) → Begins before → begins ≡ first_minislot d.params before + 1
      → follows d.params d.plans (slot_after d.params before) channel cycle
      (can_begin d channel cycle (length before)) begins ≡ true
  after_silence before begins can is =
      let back : begins - 1 ≡ first_minislot d.params before = omega (arith, is) in
      or_left (can_begin d channel cycle (length before) (begins - 1))
      (list_any (follows_node d.params (slot_after d.params before) channel cycle
      (can_begin d channel cycle (length before)) begins) d.plans)
      (ap (can_begin d channel cycle (length before)) back ∙ can)

  -- and after a frame
  after_frame : (before : List ℕ) (bytes begins : ℕ) → Begins before
      → CanSend d cycle (slot_after d.params before) channel (first_minislot d.params before) bytes
      → begins ≡ first_minislot d.params before + row_length d.params bytes
      → follows d.params d.plans (slot_after d.params before) channel cycle
      (can_begin d channel cycle (length before)) begins ≡ true
  after_frame before bytes begins can s is =
      let p = d.params in
      let slot = slot_after p before in
      let here = can_begin d channel cycle (length before) in
      let first = first_minislot p before in
      let long : row_length p bytes ≡ frame_length p s.buffer = row_is_frame p s.buffer bytes some s.bytes_are in
      let back : begins - frame_length p s.buffer ≡ first = omega (arith, is, long) in
      let frame : follows_frame p channel here begins s.plan s.buffer ≡ true =
      both (nat_le (begins - frame_length p s.buffer) (latest_on s.plan channel)) (here
      (begins - frame_length p s.buffer))
      (ap (λ (n : ℕ). nat_le n (latest_on s.plan channel)) back ∙ le-leb first (latest_on s.plan channel) s.in_time)
      (ap here back ∙ can) in
      let buffer : follows_buffer p slot channel cycle here begins s.plan s.buffer ≡ true =
      both (sends_at slot channel cycle s.buffer) (follows_frame p channel here begins s.plan s.buffer) s.sends frame in
      let node : follows_node p slot channel cycle here begins s.plan ≡ true =
      both (nat_le 1 s.plan.tasks) (list_any (follows_buffer p slot channel cycle here begins s.plan) s.plan.buffers)
      (le-leb 1 s.plan.tasks s.some_task)
      (any_passes_from_place (follows_buffer p slot channel cycle here begins s.plan) s.plan.buffers s.number s.buffer
      s.at buffer) in
      or_right (here (begins - 1)) (list_any (follows_node p slot channel cycle here begins) d.plans)
      (any_passes_from_place (follows_node p slot channel cycle here begins) d.plans s.node s.plan s.plan_at node)

  begins_next : (before : List ℕ) (bytes : ℕ) → Begins before → IsRow d cycle channel before bytes
      → Begins (before ++ bytes ∷ [])
  unfolding can_begin
  begins_next before bytes can row =
      let more : length (before ++ bytes ∷ []) ≡ suc (length before) =
      omega (arith, length-append before (bytes ∷ [])) in
      let first = first_more d.params before bytes in
      subst (λ (n : ℕ). can_begin d channel cycle n (first_minislot d.params (before ++ bytes ∷ [])) ≡ true) (sym more)
      (elim row.1 [
        | inl none ↦ after_silence before (first_minislot d.params (before ++ bytes ∷ [])) can
            (first ∙ ap (λ (n : ℕ). first_minislot d.params before + row_length d.params n) none)
        | inr s ↦ after_frame before bytes (first_minislot d.params (before ++ bytes ∷ [])) can s first
      ])

  pub way_begins : (counts : List ℕ) → IsWay d cycle channel counts
      → can_begin d channel cycle (length counts) (first_minislot d.params counts) ≡ true
  unfolding can_begin
  way_begins counts way = AllAfter-induction (IsRow d cycle channel) Begins [] counts refl begins_next way
