-- The progress of a run: room for its windows, and the next window of a cycle in which a channel has a further row.
use Rattle.std.proofs.Common.{◌≡◌, ℕ, ◌+◌, ◌*◌, ◌^◌, ◌%◌, ◌<◌, ◌≤◌, ◌==◌, Bool, true, false, cond, ◌&&◌, List, [], ◌∷◌}
use Rattle.std.proofs.Common.{◌++◌, length, length-append, Option, Some, None, refl, sym, ap, subst, ◌∙◌, arith}
use Rattle.std.proofs.Common.{option_map}
use Rattle.std.specs.Prelude.{nat_lt, min}
use Rattle.std.specs.List.{find, range_with_len}
use Rattle.std.specs.Option.{option_or}
use Rattle.std.proofs.lemmas.Bool.{ltb-false, ne_eqb}
use Rattle.std.proofs.Math.Nat.{mul-le-mul_right}
use Rattle.fr_bus.proofs.AscendLemmas.{first_stays, later_stays}
use Rattle.fr_bus.proofs.CourseLemmas.{fold_more, counts_more, course_more}
use Rattle.fr_bus.proofs.NextLemmas.{next_on, next_is, next_minislot_is}
use Rattle.fr_bus.specs.Courses.{IsCourse, course_of, first_passed, later_passed, course_after, opportunities}
use Rattle.fr_bus.specs.Outcome.{longest}
use Rattle.fr_bus.specs.Record.{Recorded}
use Rattle.fr_bus.specs.Windows.{begins_cycle, cycles_begun, with_window, this_cycle, is_row_of, counts_on, opens_any}
use Rattle.fr_bus.specs.Windows.{window_at, next_dynamic, statics_of, next_in_cycle, first_of_cycle, following}
use Rattle.fr_bus.specs.Windows.{least_of}
use Rattle.fr_core.proofs.TimingLemmas.{count_more}
use Rattle.fr_guarantees.proofs.FollowingLemmas.{found, either_within}
use Rattle.fr_guarantees.specs.Guarantees.{cycle_of}
use Rattle.fr_minislot.specs.DynamicRows.{first_minislot, has_row_after}
use Rattle.fr_slots.specs.declared.channel.Channel.{Channel}
use Rattle.fr_slots.specs.declared.channel.Channel.TheVariants.{A, B}
use Rattle.fr_slots.specs.Parameters.{Parameters, IsParameters}
use Rattle.fr_slots.specs.Windows.{opens_cycle, is_first_slot, Opportunity, static_window}

module _ (p : Parameters) (cycles : ℕ) where
  -- ---- the course along the record

  pub course_none : IsParameters p → cycles * opportunities p < 2 ^ 32 → IsCourse (course_of p cycles [])
  course_none lawful few = record {
    used = 0;
    lawful = lawful;
    ahead_a = record { params_are = refl; later = λ row. omega arith };
    ahead_b = record { params_are = refl; later = λ row. omega arith };
    few_windows = few;
    begun_fit = omega arith;
    statics_fit = omega arith;
    used_fit = omega arith;
    under_way = λ some. absurd (let none : ⊥ = omega (arith, some) in none);
  }

  pub course_next : (rs : List Recorded) (r : Recorded) → IsCourse (course_of p cycles rs)
      → following p cycles rs ≡ Some r.window → IsCourse (course_of p cycles (rs ++ r ∷ []))
  course_next rs r course follows = subst IsCourse (sym (course_more p cycles rs r)) (by (opens_cycle r.window) refl)
    where
      by : (b : Bool) → opens_cycle r.window ≡ b → IsCourse (course_after (course_of p cycles rs) r)
      by true e = subst (λ (t : Bool). IsCourse (cond t (first_passed (course_of p cycles rs))
          (later_passed (course_of p cycles rs) r.window (longest A r.sent) (longest B r.sent)))) (sym e)
          (first_stays (course_of p cycles rs) r.window course (next_is p cycles rs ∙ follows) e)
      by false e = subst (λ (t : Bool). IsCourse (cond t (first_passed (course_of p cycles rs))
          (later_passed (course_of p cycles rs) r.window (longest A r.sent) (longest B r.sent)))) (sym e)
          (later_stays (course_of p cycles rs) r.window (longest A r.sent) (longest B r.sent) course
          (next_is p cycles rs ∙ follows) e)

  -- no cycle has more windows than static slots and minislots
  pub windows_fit : (rs : List Recorded) → IsCourse (course_of p cycles rs)
      → length rs ≤ cycles_begun rs * opportunities p
  windows_fit [] course = omega arith
  windows_fit (r ∷ rs) course =
      let way = course.under_way (omega arith) in
      omega (arith, way.2, course.statics_fit, course.used_fit)

  pub number_fits : (rs : List Recorded) (w : Opportunity) → IsCourse (course_of p cycles rs)
      → following p cycles rs ≡ Some w → length rs + 1 ≤ cycles * opportunities p
  number_fits rs w course follows =
      let r : Recorded = record { window = w; sent = []; corrupt_a = None; corrupt_b = None } in
      let next = course_next rs r course follows in
      let many = windows_fit (rs ++ r ∷ []) next in
      let most : cycles_begun (rs ++ r ∷ []) * opportunities p ≤ cycles * opportunities p =
      mul-le-mul_right (opportunities p) next.begun_fit in
      omega (arith, many, most, length-append rs (r ∷ []))

  -- ---- the next window

  pub record HasNext (rs : List Recorded) : Type 0 where
    pub window : Opportunity
    pub follows : following p cycles rs ≡ Some window

  over : (rs : List Recorded) → following p cycles rs ≡ None → cycles ≤ cycles_begun rs
  over [] e = by_case (nat_lt 0 cycles) refl e
    where
      by_case : (b : Bool) → nat_lt 0 cycles ≡ b → cond b (Some (static_window 0 0 1)) None ≡ None → cycles ≤ 0
      by_case true f e = absurd (let none : ⊥ = cc in none)
      by_case false f e = ltb-false 0 cycles f
  over (r ∷ rs) e = by_case (nat_lt (cycles_begun (r ∷ rs)) cycles) refl
      (next_in_cycle p (length (r ∷ rs)) (cycle_of (r ∷ rs)) (this_cycle (r ∷ rs))) e
    where
      by_case : (b : Bool) → nat_lt (cycles_begun (r ∷ rs)) cycles ≡ b → (inner : Option Opportunity)
          → option_or inner (cond b (Some (static_window (length (r ∷ rs)) (cycles_begun (r ∷ rs) % 64) 1)) None)
          ≡ None
          → cycles ≤ cycles_begun (r ∷ rs)
      by_case b f (Some w) e = absurd (let none : ⊥ = cc in none)
      by_case true f None e = absurd (let none : ⊥ = cc in none)
      by_case false f None e = ltb-false (cycles_begun (r ∷ rs)) cycles f

  pub goes_on : (rs : List Recorded) → cycles_begun rs < cycles → HasNext rs
  goes_on rs more = by (following p cycles rs) refl
    where
      by : (o : Option Opportunity) → following p cycles rs ≡ o → HasNext rs
      by None e = absurd (let most = over rs e in let none : ⊥ = omega (arith, more, most) in none)
      by (Some w) e = record { window = w; follows = e }

  -- ---- the next window of a cycle

  pub record HasLater (rs : List Recorded) : Type 0 where
    pub window : Opportunity
    pub follows : following p cycles rs ≡ Some window
    pub later : opens_cycle window ≡ false

  record IsLeast (x y : Option ℕ) : Type 0 where
    minislot : ℕ
    is : least_of x y ≡ Some minislot

  least_first : (m : ℕ) (y : Option ℕ) → IsLeast (Some m) y
  least_first m None = record { minislot = m; is = refl }
  least_first m (Some n) = record { minislot = min m n; is = refl }

  least_second : (x : Option ℕ) (n : ℕ) → IsLeast x (Some n)
  least_second None n = record { minislot = n; is = refl }
  least_second (Some m) n = record { minislot = min m n; is = refl }

  has_least : (rows : List Recorded) (channel : Channel) → has_row_after p (counts_on channel rows) ≡ true
      → IsLeast (next_on p A rows) (next_on p B rows)
  has_least rows A row =
      let first = first_minislot p (counts_on A rows) in
      subst (λ (o : Option ℕ). IsLeast o (next_on p B rows))
      (ap (λ (b : Bool). cond b (Some first) None) (sym row)) (least_first first (next_on p B rows))
  has_least rows B row =
      let first = first_minislot p (counts_on B rows) in
      subst (λ (o : Option ℕ). IsLeast (next_on p A rows) o)
      (ap (λ (b : Bool). cond b (Some first) None) (sym row)) (least_second (next_on p A rows) first)

  record IsInner (number cycle : ℕ) (rows : List Recorded) : Type 0 where
    window : Opportunity
    is : next_in_cycle p number cycle rows ≡ Some window
    later : opens_cycle window ≡ false

  inner_dynamic : (number cycle : ℕ) (rows : List Recorded) (channel : Channel)
      → has_row_after p (counts_on channel rows) ≡ true → nat_lt (statics_of rows) p.static_slots ≡ false
      → IsInner number cycle rows
  inner_dynamic number cycle rows channel row e =
      let least = has_least rows channel row in
      let m = least.minislot in
      let is : find (opens_any p rows) (range_with_len 1 p.minislots) ≡ Some m = next_minislot_is p rows ∙ least.is in
      let within = either_within p rows m (found (opens_any p rows) (range_with_len 1 p.minislots) m is) in
      let dynamic : (m == 0) ≡ false = ne_eqb m 0 (λ none. let no : ⊥ = omega (arith, none, within.0) in no) in
      record {
        window = window_at p number cycle rows m;
        is = ap (λ (b : Bool). cond b (Some (static_window number cycle (statics_of rows + 1)))
            (next_dynamic p number cycle rows)) e ∙ ap (option_map (window_at p number cycle rows)) is;
        later = ap (λ (b : Bool). b && is_first_slot (window_at p number cycle rows m).a) dynamic;
      }

  inner_static : (number cycle : ℕ) (rows : List Recorded) → 1 ≤ statics_of rows
      → nat_lt (statics_of rows) p.static_slots ≡ true → IsInner number cycle rows
  inner_static number cycle rows some e = record {
    window = static_window number cycle (statics_of rows + 1);
    is = ap (λ (b : Bool). cond b (Some (static_window number cycle (statics_of rows + 1)))
        (next_dynamic p number cycle rows)) e;
    later = ne_eqb (statics_of rows + 1) 1 (λ one. let no : ⊥ = omega (arith, one, some) in no);
  }

  pub next_later : (rs : List Recorded) (channel : Channel) → IsCourse (course_of p cycles rs)
      → 1 ≤ cycles_begun rs → has_row_after p (counts_on channel (this_cycle rs)) ≡ true → HasLater rs
  next_later [] channel course some row = absurd (let none : ⊥ = omega (arith, some) in none)
  next_later (r ∷ rs) channel course some row =
      let way = course.under_way (omega arith) in
      let inner = by (nat_lt (statics_of (this_cycle (r ∷ rs))) p.static_slots) refl way.1 in
      record {
        window = inner.window;
        follows = ap (λ (o : Option Opportunity). option_or o
            (first_of_cycle cycles (length (r ∷ rs)) (cycles_begun (r ∷ rs)))) inner.is;
        later = inner.later;
      }
    where
      by : (b : Bool) → nat_lt (statics_of (this_cycle (r ∷ rs))) p.static_slots ≡ b
          → 1 ≤ statics_of (this_cycle (r ∷ rs))
          → IsInner (length (r ∷ rs)) (cycle_of (r ∷ rs)) (this_cycle (r ∷ rs))
      by true e one = inner_static (length (r ∷ rs)) (cycle_of (r ∷ rs)) (this_cycle (r ∷ rs)) one e
      by false e one = inner_dynamic (length (r ∷ rs)) (cycle_of (r ∷ rs)) (this_cycle (r ∷ rs)) channel row e

-- ---- one more window

pub begun_next : (rs : List Recorded) (r : Recorded) (b : Bool) → opens_cycle r.window ≡ b
    → cycles_begun (rs ++ r ∷ []) ≡ cycles_begun rs + cond b 1 0
begun_next rs r b e =
    count_more begins_cycle rs r ∙ ap (λ (t : Bool). cycles_begun rs + cond {A = ℕ} t 1 0) e

pub counts_first : (channel : Channel) (rs : List Recorded) (r : Recorded) → opens_cycle r.window ≡ true
    → is_row_of channel r ≡ false → counts_on channel (this_cycle (rs ++ r ∷ [])) ≡ []
counts_first channel rs r e row =
    ap (counts_on channel) (fold_more with_window [] rs r
    ∙ ap (λ (b : Bool). cond b (r ∷ []) (this_cycle rs ++ r ∷ [])) e)
    ∙ counts_more channel [] r false row

pub counts_next : (channel : Channel) (rs : List Recorded) (r : Recorded) (b : Bool) → opens_cycle r.window ≡ false
    → is_row_of channel r ≡ b
    → counts_on channel (this_cycle (rs ++ r ∷ []))
    ≡ counts_on channel (this_cycle rs) ++ cond b (longest channel r.sent ∷ []) []
counts_next channel rs r b e row =
    ap (counts_on channel) (fold_more with_window [] rs r
    ∙ ap (λ (t : Bool). cond t (r ∷ []) (this_cycle rs ++ r ∷ [])) e)
    ∙ counts_more channel (this_cycle rs) r b row
