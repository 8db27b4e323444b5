-- Five words are the spelling of at most one window.
use Rattle.std.proofs.Common.{◌≡◌, ℕ, ◌<◌, ◌≤◌, ◌^◌, ◌==◌, ◌&&◌, inl, inr, true, List, Option, Some, None, refl, sym}
use Rattle.std.proofs.Common.{arith, leb}
use Rattle.std.specs.Prelude.{is_some, ◌||◌}
use Rattle.std.proofs.lemmas.Bool.{and_parts, cases_Bool, leb-true, le-leb, eqb-true, eqb-false, eq-eqb}
use Rattle.std.specs.Fmt.{decimal}
use Rattle.fr_lines.proofs.PartLemmas.{optional_slot_takes, optional_slot_again}
use Rattle.fr_lines.specs.PartReading.{optional_slot_in, same_slot, window_of, window_in}
use Rattle.fr_lines.specs.Parts.{optional_number}
use Rattle.fr_slots.specs.Windows.{Opportunity, IsOpportunity, IsInRange, static_window, dynamic_window}
use Rattle.fr_text.proofs.BindLemmas.{bind_some}
use Rattle.fr_text.proofs.NumberLemmas.{number_takes, number_again}
use Rattle.fr_text.specs.Reading.{number_in}

abbrev window : ℕ → ℕ → ℕ → Option ℕ → Option ℕ → Opportunity
window number cycle minislot a b = record { number = number; cycle = cycle; minislot = minislot; a = a; b = b }

-- ---- at minislot 0

same_takes : (n c : ℕ) (a b : Option ℕ) (w : Opportunity) → same_slot n c a b ≡ Some w
    → (window n c 0 a b ≡ w) × (a ≡ b) × ((is_some a || is_some b) ≡ true)
same_takes n c None b w h = cc h
same_takes n c (Some a) None w h = cc h
same_takes n c (Some a) (Some b) w h =
    elim (cases_Bool (a == b)) [
      | inl pass ↦
          let same : a ≡ b = eqb-true a b pass in
          let is : static_window n c a ≡ w = cc (rw pass at h) in
          rw (← same) (is, refl, refl)
      | inr fail ↦ cc (rw fail at h)
    ]

same_again : (n c : ℕ) (a b : Option ℕ) → a ≡ b → (is_some a || is_some b) ≡ true
    → same_slot n c a b ≡ Some (window n c 0 a b)
same_again n c None None same some = cc some
same_again n c None (Some b) same some = cc same
same_again n c (Some a) None same some = cc same
same_again n c (Some a) (Some b) same some =
    let is : a ≡ b = cc same in
    rw (← is, eq-eqb a a refl) refl

-- ---- at any minislot

dynamic_takes : (n c m : ℕ) (a b : Option ℕ) (w : Opportunity) → dynamic_window n c m a b ≡ Some w
    → (window n c m a b ≡ w) × (1 ≤ m) × (m ≤ 8000) × ((is_some a || is_some b) ≡ true)
dynamic_takes n c m a b w h =
    elim (cases_Bool (leb 1 m && leb m 8000 && (is_some a || is_some b))) [
      | inl pass ↦
          let parts = and_parts (leb 1 m && leb m 8000) (is_some a || is_some b) pass in
          let range = and_parts (leb 1 m) (leb m 8000) parts.0 in
          let is : window n c m a b ≡ w = cc (rw pass at h) in
          (is, leb-true 1 m range.0, leb-true m 8000 range.1, parts.1)
      | inr fail ↦ cc (rw fail at h)
    ]

window_of_takes : (n c m : ℕ) (a b : Option ℕ) (w : Opportunity) → window_of n c m a b ≡ Some w
    → (window n c m a b ≡ w) × IsOpportunity (window n c m a b)
window_of_takes n c m a b w h =
    elim (cases_Bool (m == 0)) [
      | inl pass ↦
          let zero_is : m ≡ 0 = eqb-true m 0 pass in
          let taken = same_takes n c a b w (rw pass at h) in
          (rw zero_is taken.0, record { minislot_fits = omega arith; static_same = λ _. taken.1; some_slot = taken.2 })
      | inr fail ↦
          let taken = dynamic_takes n c m a b w (rw fail at h) in
          let low = taken.1 in
          (taken.0, record { minislot_fits = taken.2; static_same = λ none. absurd (omega arith); some_slot = taken.3 })
    ]

window_of_again : (n c m : ℕ) (a b : Option ℕ) → IsOpportunity (window n c m a b)
    → window_of n c m a b ≡ Some (window n c m a b)
window_of_again n c m a b is =
    elim (cases_Bool (m == 0)) [
      | inl pass ↦
          let zero_is : m ≡ 0 = eqb-true m 0 pass in
          let same : a ≡ b = is.static_same zero_is in
          rw zero_is (same_again n c a b same is.some_slot)
      | inr fail ↦
          let high = is.minislot_fits in
          let some : m ≡ 0 → ⊥ = eqb-false m 0 fail in
          let low : 1 ≤ m = omega arith in
          rw (fail, le-leb 1 m low, le-leb m 8000 high, is.some_slot) refl
    ]

-- ---- in words

pub record AreWindowWords (number cycle minislot slot_a slot_b : List ℕ) (w : Opportunity) : Type 0 where
  pub number_is : number ≡ decimal w.number
  pub cycle_is : cycle ≡ decimal w.cycle
  pub minislot_is : minislot ≡ decimal w.minislot
  pub slot_a_is : slot_a ≡ optional_number w.a
  pub slot_b_is : slot_b ≡ optional_number w.b

pub window_takes : (number cycle minislot slot_a slot_b : List ℕ) (w : Opportunity)
    → window_in number cycle minislot slot_a slot_b ≡ Some w
    → AreWindowWords number cycle minislot slot_a slot_b w × IsInRange w
unfolding window_in
window_takes number cycle minislot slot_a slot_b w h =
    let (n, hn, h1) = bind_some (number_in (2 ^ 32) number) _ w h in
    let (c, hc, h2) = bind_some (number_in 64 cycle) _ w h1 in
    let (m, hm, h3) = bind_some (number_in 8001 minislot) _ w h2 in
    let (a, ha, h4) = bind_some (optional_slot_in slot_a) _ w h3 in
    let (b, hb, h5) = bind_some (optional_slot_in slot_b) _ w h4 in
    let taken = window_of_takes n c m a b w h5 in
    let tn = number_takes (2 ^ 32) number n hn in
    let tc = number_takes 64 cycle c hc in
    let tm = number_takes 8001 minislot m hm in
    let ta = optional_slot_takes slot_a a ha in
    let tb = optional_slot_takes slot_b b hb in
    rw (← taken.0) (
      record { number_is = sym tn.0; cycle_is = sym tc.0; minislot_is = sym tm.0; slot_a_is = ta.0; slot_b_is = tb.0 },
      record { number_fits = tn.1; cycle_fits = tc.1; slot_a = ta.1; slot_b = tb.1; window_is = taken.1 },
    )

pub window_again : (w : Opportunity) → IsInRange w
    → window_in (decimal w.number) (decimal w.cycle) (decimal w.minislot) (optional_number w.a) (optional_number w.b)
    ≡ Some w
unfolding window_in
window_again w is =
    let high = is.window_is.minislot_fits in
    let below : w.minislot < 8001 = omega arith in
    rw (
      number_again (2 ^ 32) w.number is.number_fits (omega arith),
      number_again 64 w.cycle is.cycle_fits (omega arith),
      number_again 8001 w.minislot below (omega arith),
      optional_slot_again w.a is.slot_a,
      optional_slot_again w.b is.slot_b,
    ) (window_of_again w.number w.cycle w.minislot w.a w.b is.window_is)
