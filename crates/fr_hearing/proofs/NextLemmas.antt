-- The window that follows those of a record: the first of a cycle, a further static one, or a dynamic one.
use Rattle.std.proofs.Common.{◌≡◌, ℕ, ◌+◌, ◌%◌, ◌<◌, ◌≤◌, Bool, true, false, not, cond, ◌&&◌, List, [], ◌∷◌, ◌++◌}
use Rattle.std.proofs.Common.{Option, Some, None, refl, sym, ap, subst, ◌∙◌, arith, ◌⊎◌, inl, inr}
use Rattle.std.specs.Prelude.{nat_lt, nat_le, ◌==◌, is_some, min, option_map}
use Rattle.std.specs.Option.{option_or}
use Rattle.std.proofs.lemmas.Bool.{ltb-true, ltb-false, leb-true, eqb-true, ne_eqb}
use Rattle.std.proofs.lemmas.Bool.Decides.{eqb_tells}
use Rattle.fr_bus.proofs.CourseLemmas.{course_more}
use Rattle.fr_bus.proofs.NextLemmas.{next_is}
use Rattle.fr_bus.specs.Courses.{Standpoint, first_passed, passed, course_of, first_next, inner_next, dynamic_next}
use Rattle.fr_bus.specs.Courses.{opening, cycle_of, next_of}
use Rattle.fr_bus.specs.Outcome.{longest}
use Rattle.fr_bus.specs.Record.{Recorded}
use Rattle.fr_bus.specs.Windows.{least_of, following}
use Rattle.fr_core.proofs.CaseLemmas.{both_first, both_rest}
use Rattle.fr_minislot.specs.DynamicRows.{is_row, last_slot}
use Rattle.fr_minislot.specs.Lanes.{Standing, closed, opened_in, next_in}
use Rattle.fr_slots.proofs.PlaceLemmas.{same_some}
use Rattle.fr_slots.specs.declared.channel.Channel.{Channel}
use Rattle.fr_slots.specs.declared.channel.Channel.TheVariants.{A, B}
use Rattle.fr_slots.specs.Parameters.{Parameters}
use Rattle.fr_slots.specs.Windows.{is_first_slot, Opportunity, slot_of, static_window}

-- ---- the three ways in which a window is next

-- the first window of a cycle, after the static segment of the cycle before it
pub record IsFirst (c : Standpoint) (w : Opportunity) : Type 0 where
  pub over : 1 ≤ c.windows → c.params.static_slots ≤ c.statics
  pub is : w ≡ static_window c.windows (c.begun % 64) 1

pub record IsStatic (c : Standpoint) (w : Opportunity) : Type 0 where
  pub further : c.statics < c.params.static_slots
  pub is : w ≡ static_window c.windows (cycle_of c) (c.statics + 1)

pub record IsDynamic (c : Standpoint) (w : Opportunity) : Type 0 where
  pub minislot : ℕ
  pub over : c.params.static_slots ≤ c.statics
  pub least : least_of (next_in c.a) (next_in c.b) ≡ Some minislot
  pub is : w ≡ opening c minislot

abbrev pub IsNextOf : Standpoint → Opportunity → Type 0
IsNextOf c w = IsFirst c w ⊎ (((1 ≤ c.windows) × IsStatic c w) ⊎ ((1 ≤ c.windows) × IsDynamic c w))

first_case : (c : Standpoint) (w : Opportunity) → (1 ≤ c.windows → c.params.static_slots ≤ c.statics)
    → first_next c ≡ Some w → IsFirst c w
first_case c w over e = by (nat_lt c.begun c.cycles) e
  where
    by : (b : Bool) → cond b (Some (static_window c.windows (c.begun % 64) 1)) None ≡ Some w → IsFirst c w
    by true f = record { over = over; is = sym (same_some _ w f) }
    by false f = absurd (let none : ⊥ = cc in none)

module _ (c : Standpoint) (w : Opportunity) (some : 1 ≤ c.windows) where
  dynamic_case : (inner : Option Opportunity) → c.params.static_slots ≤ c.statics → (least : Option ℕ)
      → least_of (next_in c.a) (next_in c.b) ≡ least → option_or (option_map (opening c) least) (first_next c) ≡ Some w
      → IsNextOf c w
  dynamic_case inner over None is e = inl (first_case c w (λ x. over) e)
  dynamic_case inner over (Some m) is e =
      inr (inr (some, record { minislot = m; over = over; least = is; is = sym (same_some _ w e) }))

  inner_case : (b : Bool) → nat_lt c.statics c.params.static_slots ≡ b
      → option_or (cond b (Some (static_window c.windows (cycle_of c) (c.statics + 1))) (dynamic_next c))
      (first_next c) ≡ Some w → IsNextOf c w
  inner_case true is e =
      inr (inl (
        some,
        record {
          further = ltb-true c.statics c.params.static_slots is;
          is = sym (same_some _ w e);
        },
      ))
  inner_case false is e =
      dynamic_case (dynamic_next c) (ltb-false c.statics c.params.static_slots is)
      (least_of (next_in c.a) (next_in c.b))
      refl e

next_case : (c : Standpoint) (w : Opportunity) → next_of c ≡ Some w → IsNextOf c w
next_case c w e = elim (eqb_tells c.windows 0) [
  | inl none ↦ inl (first_case c w (λ some. absurd (let no : ⊥ = omega (arith, none.1, some) in no))
      (ap (λ b. cond b (first_next c) (option_or (inner_next c) (first_next c))) (sym none.0) ∙ e))
  | inr other ↦ inner_case c w (omega (arith, other.1)) (nat_lt c.statics c.params.static_slots) refl
      (ap (λ b. cond b (first_next c) (option_or (inner_next c) (first_next c))) (sym other.0) ∙ e)
]

pub next_window : (p : Parameters) (cycles : ℕ) (rs : List Recorded) (w : Opportunity) → following p cycles rs ≡ Some w
    → IsNextOf (course_of p cycles rs) w
next_window p cycles rs w e = next_case (course_of p cycles rs) w (next_is p cycles rs ∙ e)

-- ---- the course after it

-- with the window known
course_then : (p : Parameters) (cycles : ℕ) (rs : List Recorded) (r : Recorded) (w : Opportunity) → r.window ≡ w
    → course_of p cycles (rs ++ r ∷ []) ≡ passed (course_of p cycles rs) w (longest A r.sent) (longest B r.sent)
course_then p cycles rs r w is =
    course_more p cycles rs r
    ∙ ap (λ (v : Opportunity). passed (course_of p cycles rs) v (longest A r.sent) (longest B r.sent)) is

abbrev pub static_passed : Standpoint → Standpoint
static_passed c = record c { windows = c.windows + 1; statics = c.statics + 1 }

abbrev pub lane_passed : Standing → ℕ → ℕ → Standing
lane_passed lane minislot bytes = cond (is_some (opened_in lane minislot)) (closed lane bytes) lane

abbrev pub dynamic_passed : Standpoint → ℕ → ℕ → ℕ → Standpoint
dynamic_passed c m x y = record c {
  windows = c.windows + 1;
  statics = c.statics + 0;
  a = lane_passed c.a m x;
  b = lane_passed c.b m y;
}

module _ (p : Parameters) (cycles : ℕ) (rs : List Recorded) (r : Recorded) where
  pub after_first : (number cycle : ℕ) → r.window ≡ static_window number cycle 1
      → course_of p cycles (rs ++ r ∷ []) ≡ first_passed (course_of p cycles rs)
  after_first number cycle is = course_then p cycles rs r (static_window number cycle 1) is

  pub after_static : (number cycle statics : ℕ) → 1 ≤ statics → r.window ≡ static_window number cycle (statics + 1)
      → course_of p cycles (rs ++ r ∷ []) ≡ static_passed (course_of p cycles rs)
  after_static number cycle statics some is =
      course_then p cycles rs r (static_window number cycle (statics + 1)) is
      ∙ ap (λ (b : Bool). cond b (first_passed (course_of p cycles rs)) (static_passed (course_of p cycles rs)))
      (ne_eqb (statics + 1) 1 (λ same. let none : ⊥ = omega (arith, some, same) in none))

  pub after_dynamic : (m : ℕ) → 1 ≤ m → r.window ≡ opening (course_of p cycles rs) m
      → course_of p cycles (rs ++ r ∷ [])
      ≡ dynamic_passed (course_of p cycles rs) m (longest A r.sent) (longest B r.sent)
  after_dynamic m some is =
      course_then p cycles rs r (opening (course_of p cycles rs) m) is ∙ by (m == 0) other
    where
      other : (m == 0) ≡ false
      other = ne_eqb m 0 (λ same. let none : ⊥ = omega (arith, some, same) in none)

      by : (z : Bool) → z ≡ false
          → cond (z && is_first_slot (opened_in (course_of p cycles rs).a m))
          (first_passed (course_of p cycles rs)) (record (course_of p cycles rs) {
            windows = (course_of p cycles rs).windows + 1;
            statics = (course_of p cycles rs).statics + cond z 1 0;
            a = cond (not z && is_some (opened_in (course_of p cycles rs).a m))
                (closed (course_of p cycles rs).a (longest A r.sent)) (course_of p cycles rs).a;
            b = cond (not z && is_some (opened_in (course_of p cycles rs).b m))
                (closed (course_of p cycles rs).b (longest B r.sent)) (course_of p cycles rs).b;
          })
          ≡ dynamic_passed (course_of p cycles rs) m (longest A r.sent) (longest B r.sent)
      by true e = absurd (let none : ⊥ = cc in none)
      by false e = refl

-- ---- the lane of a channel

abbrev pub lane_of : Channel → Standpoint → Standing
lane_of A c = c.a
lane_of B c = c.b

pub slot_opened : (channel : Channel) (c : Standpoint) (m : ℕ)
    → slot_of (opening c m) channel ≡ opened_in (lane_of channel c) m
slot_opened A c m = refl
slot_opened B c m = refl

-- the slot that a lane opens, which begins at the minislot
pub record IsOpened (lane : Standing) (m slot : ℕ) : Type 0 where
  pub slot_is : slot ≡ lane.slot
  pub begins : lane.begins ≡ m
  pub within : lane.begins ≤ lane.params.minislots
  pub slot_fits : lane.slot ≤ 2047

pub opened_is : (lane : Standing) (m slot : ℕ) → opened_in lane m ≡ Some slot → IsOpened lane m slot
opened_is lane m slot e = by (is_row lane.params lane.slot lane.begins && lane.begins == m) refl e
  where
    by : (b : Bool) → (is_row lane.params lane.slot lane.begins && lane.begins == m) ≡ b
        → cond b (Some lane.slot) None ≡ Some slot → IsOpened lane m slot
    by false is f = absurd (let none : ⊥ = cc in none)
    by true is f =
        let row = both_first (is_row lane.params lane.slot lane.begins) (lane.begins == m) is in
        let at = both_rest (is_row lane.params lane.slot lane.begins) (lane.begins == m) is in
        record {
          slot_is = sym (same_some lane.slot slot f);
          begins = eqb-true lane.begins m at;
          within = leb-true lane.begins lane.params.minislots
              (both_first (nat_le lane.begins lane.params.minislots) (nat_le lane.slot last_slot) row);
          slot_fits = leb-true lane.slot 2047
              (both_rest (nat_le lane.begins lane.params.minislots) (nat_le lane.slot last_slot) row);
        }

-- both lanes begin after no minislot, so the next window doesn't either
pub some_minislot : (c : Standpoint) (m : ℕ) → 1 ≤ c.a.begins → 1 ≤ c.b.begins
    → least_of (next_in c.a) (next_in c.b) ≡ Some m → 1 ≤ m
some_minislot c m a b e =
    by (is_row c.a.params c.a.slot c.a.begins) (is_row c.b.params c.b.slot c.b.begins) e
  where
    by : (x y : Bool) → least_of (cond x (Some c.a.begins) None) (cond y (Some c.b.begins) None) ≡ Some m → 1 ≤ m
    by false false f = absurd (let none : ⊥ = cc in none)
    by true false f = subst (λ n. 1 ≤ n) (same_some c.a.begins m f) a
    by false true f = subst (λ n. 1 ≤ n) (same_some c.b.begins m f) b
    by true true f =
        let same : min c.a.begins c.b.begins ≡ m = same_some (min c.a.begins c.b.begins) m f in
        omega (arith, same, a, b)
