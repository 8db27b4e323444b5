-- The windows of a cycle ascend, so a course that passes its next window is a course again.
use Rattle.std.proofs.Common.{◌≡◌, ◌⊎◌, ℕ, ◌+◌, ◌*◌, ◌<◌, ◌≤◌, Bool, true, false, cond, [], Option, Some, None, inl}
use Rattle.std.proofs.Common.{inr, refl, sym, ap, ◌∙◌, subst, arith}
use Rattle.std.proofs.lemmas.Bool.{ltb-true, leb-true, eqb-true, ne_eqb}
use Rattle.std.proofs.lemmas.Bool.Decides.{eqb_tells}
use Rattle.std.proofs.Math.Nat.{mul-le-mul_right}
use Rattle.std.specs.Prelude.{◌^◌, ◌&&◌, ◌==◌, ◌%◌, not, nat_lt, nat_le, is_some, min, option_map}
use Rattle.std.specs.Option.{option_or}
use Rattle.fr_bus.proofs.NextLemmas.{some_if, and_left}
use Rattle.fr_bus.specs.Courses.{Standpoint, IsAhead, IsCourse, opportunities, first_passed, later_passed, first_next}
use Rattle.fr_bus.specs.Courses.{inner_next, dynamic_next, opening, cycle_of, next_of}
use Rattle.fr_bus.specs.Windows.{least_of}
use Rattle.fr_slots.specs.Windows.{opens_cycle}
use Rattle.fr_minislot.proofs.RowLemmas.{row_has_one}
use Rattle.fr_minislot.specs.Lanes.{Standing, standing_after, closed, opened_in, next_in}
use Rattle.fr_minislot.specs.DynamicRows.{is_row, last_slot}
use Rattle.fr_slots.specs.Parameters.{Parameters, IsParameters}
use Rattle.fr_slots.specs.Windows.{Opportunity, static_window}

-- ---- the three ways in which a window is next

record IsFirst (c : Standpoint) (w : Opportunity) : Type 0 where
  cycle : ℕ
  further : c.begun < c.cycles
  is : w ≡ static_window c.windows cycle 1

record IsStatic (c : Standpoint) (w : Opportunity) : Type 0 where
  some : 1 ≤ c.windows
  further : c.statics < c.params.static_slots
  is : w ≡ static_window c.windows (cycle_of c) (c.statics + 1)

record IsDynamic (c : Standpoint) (w : Opportunity) : Type 0 where
  minislot : ℕ
  some : 1 ≤ c.windows
  least : least_of (next_in c.a) (next_in c.b) ≡ Some minislot
  is : w ≡ opening c minislot

abbrev IsNext : Standpoint → Opportunity → Type 0
IsNext c w = IsFirst c w ⊎ (IsStatic c w ⊎ IsDynamic c w)

first_case : (c : Standpoint) (w : Opportunity) → first_next c ≡ Some w → IsFirst c w
first_case c w e = by_case (nat_lt c.begun c.cycles) refl e
  where
    by_case : (b : Bool) → nat_lt c.begun c.cycles ≡ b → cond b (Some (static_window c.windows (c.begun % 64) 1)) None ≡
        Some w → IsFirst c w
    by_case true f e = record { cycle = c.begun % 64; further = ltb-true c.begun c.cycles f; is = cc }
    by_case false f e = absurd (let none : ⊥ = cc in none)

dynamic_case : (c : Standpoint) (w : Opportunity) → 1 ≤ c.windows → (least : Option ℕ)
    → least_of (next_in c.a) (next_in c.b) ≡ least → option_map (opening c) least ≡ Some w → IsDynamic c w
dynamic_case c w some None f e = absurd (let none : ⊥ = cc in none)
dynamic_case c w some (Some m) f e = record { minislot = m; some = some; least = f; is = cc }

inner_case : (c : Standpoint) (w : Opportunity) → 1 ≤ c.windows → inner_next c ≡ Some w → IsNext c w
inner_case c w some e = by_case (nat_lt c.statics c.params.static_slots) refl e
  where
    by_case : (b : Bool) → nat_lt c.statics c.params.static_slots ≡ b
        → cond b (Some (static_window c.windows (cycle_of c) (c.statics + 1))) (dynamic_next c) ≡ Some w → IsNext c w
    by_case true f e = inr (inl (record { some = some; further = ltb-true c.statics c.params.static_slots f; is = cc }))
    by_case false f e = inr (inr (dynamic_case c w some (least_of (next_in c.a) (next_in c.b)) refl e))

next_case : (c : Standpoint) (w : Opportunity) → next_of c ≡ Some w → IsNext c w
next_case c w e = elim (eqb_tells c.windows 0) [
  | inl none ↦ inl (first_case c w (ap (λ b. cond b (first_next c) (option_or (inner_next c) (first_next c)))
      (sym none.0) ∙ e))
  | inr other ↦ by_case (omega (arith, other.1)) (inner_next c) refl
      (ap (λ b. cond b (first_next c) (option_or (inner_next c) (first_next c))) (sym other.0) ∙ e)
]
  where
    by_case : 1 ≤ c.windows → (o : Option Opportunity) → inner_next c ≡ o → option_or o (first_next c) ≡ Some w
        → IsNext c w
    by_case some None f e = inl (first_case c w e)
    by_case some (Some v) f e = inner_case c w some (f ∙ e)

-- ---- the first window of a cycle

new_ahead : (p : Parameters) → IsAhead p 0 (standing_after p [])
new_ahead p = record { params_are = refl; later = λ row. omega arith }

first_is_course : (c : Standpoint) → IsCourse c → c.begun < c.cycles → IsCourse (first_passed c)
first_is_course c course further = record {
  used = 0;
  lawful = course.lawful;
  ahead_a = new_ahead c.params;
  ahead_b = new_ahead c.params;
  few_windows = course.few_windows;
  begun_fit = omega (arith, further);
  statics_fit = omega (arith, course.lawful.static_slots_fit.from_least);
  used_fit = omega arith;
  under_way = λ some. (omega arith, omega arith, room);
}
  where
    room : c.windows + 1 + opportunities c.params ≤ (c.begun + 1) * opportunities c.params + 1 + 0
    room = elim (eqb_tells c.windows 0) [
      | inl none ↦ omega (arith, none.1)
      | inr other ↦ (let way = course.under_way (omega (arith, other.1)) in omega
          (arith, way.2, course.statics_fit, course.used_fit))
    ]

-- ---- the next static window

static_is_course : (c : Standpoint) (cycle a b : ℕ) → IsCourse c → 1 ≤ c.windows → c.statics < c.params.static_slots
    → IsCourse (later_passed c (static_window c.windows cycle (c.statics + 1)) a b)
static_is_course c cycle a b course some further =
    let way = course.under_way some in
    record {
      used = course.used;
      lawful = course.lawful;
      ahead_a = course.ahead_a;
      ahead_b = course.ahead_b;
      few_windows = course.few_windows;
      begun_fit = course.begun_fit;
      statics_fit = omega (arith, further);
      used_fit = course.used_fit;
      under_way = λ more. (way.0, omega (arith, way.1), omega (arith, way.2));
    }

-- ---- the next dynamic window

record IsLeast (p q : Bool) (x y m : ℕ) : Type 0 where
  first : p ≡ true → m ≤ x
  second : q ≡ true → m ≤ y
  between : (lo hi : ℕ) → (p ≡ true → (lo < x) × (x ≤ hi)) → (q ≡ true → (lo < y) × (y ≤ hi)) → (lo < m) × (m ≤ hi)

least_is : (p q : Bool) (x y m : ℕ) → least_of (cond p (Some x) None) (cond q (Some y) None) ≡ Some m
    → IsLeast p q x y m
least_is false false x y m e = absurd (let none : ⊥ = cc in none)
least_is true false x y m e =
    let same : x ≡ m = cc in
    record {
      first = λ h. omega (arith, same);
      second = λ h. absurd (let none : ⊥ = cc in none);
      between =
          λ lo hi f g. (let w = f refl in (omega (arith, same, w.0), omega (arith, same, w.1)));
    }
least_is false true x y m e =
    let same : y ≡ m = cc in
    record {
      first = λ h. absurd (let none : ⊥ = cc in none);
      second = λ h. omega (arith, same);
      between =
          λ lo hi f g. (let w = g refl in (omega (arith, same, w.0), omega (arith, same, w.1)));
    }
least_is true true x y m e =
    let same : min x y ≡ m = cc in
    record {
      first = λ h. omega (arith, same);
      second = λ h. omega (arith, same);
      between =
          λ lo hi f g. (let v = f refl in let w = g refl in (
            omega (arith, same, v.0, w.0),
            omega (arith, same, v.1, w.1),
          ));
    }

abbrev row_of : Standing → Bool
row_of lane = is_row lane.params lane.slot lane.begins

least_in : (c : Standpoint) (m : ℕ) → least_of (next_in c.a) (next_in c.b) ≡ Some m
    → IsLeast (row_of c.a) (row_of c.b) c.a.begins c.b.begins m
least_in c m e = least_is (row_of c.a) (row_of c.b) c.a.begins c.b.begins m e

-- a row that is still to come begins at a minislot of the segment, after those that were opened
row_between : (p : Parameters) (used : ℕ) (lane : Standing) → IsAhead p used lane → row_of lane ≡ true
    → (used < lane.begins) × (lane.begins ≤ p.minislots)
row_between p used lane ahead row =
    let fits : lane.begins ≤ lane.params.minislots = leb-true lane.begins lane.params.minislots
    (and_left (nat_le lane.begins lane.params.minislots) (nat_le lane.slot last_slot) row) in
    (ahead.later row, subst (λ (q : Parameters). lane.begins ≤ q.minislots) ahead.params_are fits)

minislot_between : (c : Standpoint) (m : ℕ) → (course : IsCourse c) → least_of (next_in c.a) (next_in c.b) ≡ Some m
    → (course.used < m) × (m ≤ c.params.minislots)
minislot_between c m course e =
    (least_in c m e).between course.used c.params.minislots (row_between c.params course.used c.a course.ahead_a)
    (row_between c.params course.used c.b course.ahead_b)

pub and_right : (p q : Bool) → (p && q) ≡ true → q ≡ true
and_right true q e = e
and_right false q e = absurd (let none : ⊥ = cc in none)

and_open : (p q : Bool) → (p && q) ≡ false → p ≡ true → q ≡ false
and_open true q e f = e
and_open false q e f = absurd (let none : ⊥ = cc in none)

not_at : (x m : ℕ) → (x == m) ≡ false → m ≤ x → m < x
not_at x m e least = elim (eqb_tells x m) [
  | inl same ↦ absurd (let a = same.0 in let none : ⊥ = cc in none)
  | inr other ↦ omega (arith, least, other.1)
]

-- after the window of a minislot each lane's next slot opens later
ahead_more : (p : Parameters) (used m bytes : ℕ) (lane : Standing) (opens : Bool) → IsParameters p → IsAhead p used lane
    → (row_of lane && lane.begins == m) ≡ opens → (row_of lane ≡ true → m ≤ lane.begins)
    → IsAhead p m (cond opens (closed lane bytes) lane)
ahead_more p used m bytes lane true lawful ahead opens least =
    let at = eqb-true lane.begins m (and_right (row_of lane) (lane.begins == m) opens) in
    let words : 1 ≤ lane.params.words_per_minislot = subst (λ (q : Parameters). 1 ≤ q.words_per_minislot)
    (sym ahead.params_are) lawful.words_per_minislot_fit.from_least in
    record { params_are = ahead.params_are; later = λ row. omega (arith, at, row_has_one lane.params bytes words) }
ahead_more p used m bytes lane false lawful ahead opens least =
    record {
      params_are = ahead.params_are;
      later = λ row. not_at lane.begins m
          (and_open (row_of lane) (lane.begins == m) opens row) (least row);
    }

-- the course after a window that is known to be dynamic
abbrev dynamic_passed : Standpoint → ℕ → ℕ → ℕ → Standpoint
dynamic_passed c m a b = record c {
  windows = c.windows + 1;
  statics = c.statics + 0;
  a = cond (is_some (opened_in c.a m)) (closed c.a a) c.a;
  b = cond (is_some (opened_in c.b m)) (closed c.b b) c.b;
}

dynamic_passed_is : (c : Standpoint) (m a b : ℕ) → (m == 0) ≡ false
    → later_passed c (opening c m) a b ≡ dynamic_passed c m a b
dynamic_passed_is c m a b e =
    ap (λ (z : Bool). record c {
      windows = c.windows + 1;
      statics = c.statics + cond z 1 0;
      a = cond (not z && is_some (opened_in c.a m)) (closed c.a a) c.a;
      b = cond (not z && is_some (opened_in c.b m)) (closed c.b b) c.b;
    }) e

dynamic_is_course : (c : Standpoint) (m a b : ℕ) → IsCourse c → 1 ≤ c.windows
    → least_of (next_in c.a) (next_in c.b) ≡ Some m → IsCourse (dynamic_passed c m a b)
dynamic_is_course c m a b course some least =
    let way = course.under_way some in
    let between = minislot_between c m course least in
    let least_one = least_in c m least in
    record {
      used = m;
      lawful = course.lawful;
      ahead_a = ahead_more c.params course.used m a c.a (is_some (opened_in c.a m)) course.lawful course.ahead_a
          (sym (some_if (row_of c.a && c.a.begins == m) c.a.slot)) least_one.first;
      ahead_b = ahead_more c.params course.used m b c.b (is_some (opened_in c.b m)) course.lawful course.ahead_b
          (sym (some_if (row_of c.b && c.b.begins == m) c.b.slot)) least_one.second;
      few_windows = course.few_windows;
      begun_fit = course.begun_fit;
      statics_fit = omega (arith, course.statics_fit);
      used_fit = between.1;
      under_way = λ more. (way.0, omega (arith, way.1), omega (arith, way.2, between.0));
    }

not_static : (c : Standpoint) (w : Opportunity) → IsCourse c → (d : IsDynamic c w) → (d.minislot == 0) ≡ false
not_static c w course d =
    let between = minislot_between c d.minislot course d.least in
    ne_eqb d.minislot 0 (λ same. let none : ⊥ = omega (arith, same, between.0) in none)

pub later_stays : (c : Standpoint) (w : Opportunity) (a b : ℕ) → IsCourse c → next_of c ≡ Some w → opens_cycle w ≡ false
    → IsCourse (later_passed c w a b)
later_stays c w a b course next later = elim (next_case c w next) [
  | inl first ↦ absurd (let opens : opens_cycle w ≡ true = ap opens_cycle first.is in let none : ⊥ = cc in none)
  | inr rest ↦ elim rest [
    | inl static ↦ subst (λ (v : Opportunity). IsCourse (later_passed c v a b)) (sym static.is)
        (static_is_course c (cycle_of c) a b course static.some static.further)
    | inr dynamic ↦ subst (λ (v : Opportunity). IsCourse (later_passed c v a b)) (sym dynamic.is)
        (subst IsCourse (sym (dynamic_passed_is c dynamic.minislot a b (not_static c w course dynamic)))
        (dynamic_is_course c dynamic.minislot a b course dynamic.some dynamic.least))
  ]
]

pub first_stays : (c : Standpoint) (w : Opportunity) → IsCourse c → next_of c ≡ Some w → opens_cycle w ≡ true
    → IsCourse (first_passed c)
first_stays c w course next opens = elim (next_case c w next) [
  | inl first ↦ first_is_course c course first.further
  | inr rest ↦ elim rest [
    | inl static ↦ absurd (no_static static)
    | inr dynamic ↦ absurd (no_dynamic dynamic)
  ]
]
  where
    no_static : IsStatic c w → ⊥
    no_static static =
        let one : (c.statics + 1 == 1) ≡ true = ap opens_cycle (sym static.is) ∙ opens in
        let way = course.under_way static.some in
        omega (arith, eqb-true (c.statics + 1) 1 one, way.1)

    no_dynamic : IsDynamic c w → ⊥
    no_dynamic dynamic =
        let static : (dynamic.minislot == 0) ≡ true = and_left (dynamic.minislot == 0) _
        (ap opens_cycle (sym dynamic.is) ∙ opens) in
        let not_so = not_static c w course dynamic in
        cc

-- ---- the number of every window fits

windows_few : (c : Standpoint) → IsCourse c → c.windows ≤ c.cycles * opportunities c.params
windows_few c course = elim (eqb_tells c.windows 0) [
  | inl none ↦ omega (arith, none.1)
  | inr other ↦ (let way = course.under_way (omega (arith, other.1)) in
      let more : c.begun * opportunities c.params ≤ c.cycles * opportunities c.params =
      mul-le-mul_right (opportunities c.params) course.begun_fit in
      omega (arith, way.2, more, course.statics_fit, course.used_fit))
]

pub windows_fit : (c : Standpoint) → IsCourse c → c.windows < 2 ^ 32
windows_fit c course = omega (arith, windows_few c course, course.few_windows)
