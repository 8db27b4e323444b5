-- A static slot has one window in each cycle of a run.
use Rattle.std.proofs.Common.{◌≡◌, ℕ, ◌+◌, ◌%◌, ◌<◌, ◌≤◌, Bool, true, false, cond, List, [], ◌∷◌, ◌++◌, refl, sym, ap}
use Rattle.std.proofs.Common.{subst, ◌∙◌, arith, Some, inl, inr}
use Rattle.std.proofs.lemmas.Bool.{eqb-true}
use Rattle.std.proofs.lemmas.List.{append_assoc, append-nil}
use Rattle.std.specs.Prelude.{◌==◌}
use Rattle.fr_bus.proofs.CourseLemmas.{course_more}
use Rattle.fr_bus.specs.Courses.{Standpoint, course_of, first_passed, later_passed, passed, course_after, cycle_of}
use Rattle.fr_bus.specs.Outcome.{longest}
use Rattle.fr_bus.specs.Record.{Recorded}
use Rattle.fr_bus.specs.Windows.{following, counts_on, this_cycle}
use Rattle.fr_hearing.proofs.NextLemmas.{IsNextOf, next_window, after_first, some_minislot}
use Rattle.fr_minislot.specs.DynamicRows.{first_minislot}
use Rattle.fr_slots.proofs.PlaceLemmas.{same_some, same_head, same_tail}
use Rattle.fr_slots.specs.declared.channel.Channel.{Channel}
use Rattle.fr_slots.specs.declared.channel.Channel.TheVariants.{A, B}
use Rattle.fr_slots.specs.Parameters.{Parameters}
use Rattle.fr_slots.specs.Windows.{Opportunity, slot_of, is_static, static_window, opens_cycle}

-- ---- the progress of a run

-- at least as many cycles have begun, and in the same cycle at least as many static windows
abbrev IsPast : Standpoint → Standpoint → Type 0
IsPast c d = (c.begun ≤ d.begun) × (c.begun ≡ d.begun → c.statics ≤ d.statics)

-- at least as many cycles have begun, and in the same cycle more static windows
abbrev IsLater : Standpoint → Standpoint → Type 0
IsLater c d = (c.begun ≤ d.begun) × (c.begun ≡ d.begun → c.statics < d.statics)

past_past : (a b c : Standpoint) → IsPast a b → IsPast b c → IsPast a c
past_past a b c p q =
    let low = p.0 in
    let high = q.0 in (
      omega (arith, low, high),
      λ same.
          (let first = p.1 (let e : a.begun ≡ b.begun = omega (arith, low, high, same) in e) in
          let second = q.1 (let e : b.begun ≡ c.begun = omega (arith, low, high, same) in e) in
          omega (arith, first, second)),
    )

past_later : (a b c : Standpoint) → IsPast a b → IsLater b c → IsLater a c
past_later a b c p q =
    let low = p.0 in
    let high = q.0 in (
      omega (arith, low, high),
      λ same.
          (let first = p.1 (let e : a.begun ≡ b.begun = omega (arith, low, high, same) in e) in
          let second = q.1 (let e : b.begun ≡ c.begun = omega (arith, low, high, same) in e) in
          omega (arith, first, second)),
    )

past_after : (c : Standpoint) (r : Recorded) → IsPast c (course_after c r)
past_after c r = by (opens_cycle r.window)
  where
    by : (b : Bool) → IsPast c
        (cond b (first_passed c) (later_passed c r.window (longest A r.sent) (longest B r.sent)))
    by true = (omega arith, λ same. absurd (let none : ⊥ = omega (arith, same) in none))
    by false = (omega arith, λ same. omega arith)

later_after : (c : Standpoint) (r : Recorded) → is_static r.window ≡ true → IsLater c (course_after c r)
later_after c r static = by (opens_cycle r.window)
  where
    one : ◌≡◌ {A = ℕ} (cond (is_static r.window) 1 0) 1
    one = ap (λ (b : Bool). cond b 1 0) static

    by : (b : Bool) → IsLater c
        (cond b (first_passed c) (later_passed c r.window (longest A r.sent) (longest B r.sent)))
    by true = (omega arith, λ same. absurd (let none : ⊥ = omega (arith, same) in none))
    by false = (omega arith, λ same. omega (arith, one))

-- ---- the windows of a record

module _ (p : Parameters) (cycles : ℕ) where
  past_more : (before rs : List Recorded) → IsPast (course_of p cycles before) (course_of p cycles (before ++ rs))
  past_more before [] = subst (λ (l : List Recorded). IsPast (course_of p cycles before) (course_of p cycles l))
      (sym (append-nil before)) (omega arith, λ same. omega arith)
  past_more before (x ∷ rs) =
      let one = subst (IsPast (course_of p cycles before)) (sym (course_more p cycles before x))
      (past_after (course_of p cycles before) x) in
      subst (λ (l : List Recorded). IsPast (course_of p cycles before) (course_of p cycles l))
      (append_assoc before (x ∷ []) rs)
      (past_past (course_of p cycles before) (course_of p cycles (before ++ x ∷ []))
      (course_of p cycles ((before ++ x ∷ []) ++ rs)) one (past_more (before ++ x ∷ []) rs))

  later_static : (before rs : List Recorded) (y : Recorded) → is_static y.window ≡ true
      → IsLater (course_of p cycles before) (course_of p cycles (before ++ (rs ++ y ∷ [])))
  later_static before rs y static =
      let last = subst (IsLater (course_of p cycles (before ++ rs))) (sym (course_more p cycles (before ++ rs) y))
      (later_after (course_of p cycles (before ++ rs)) y static) in
      subst (λ (l : List Recorded). IsLater (course_of p cycles before) (course_of p cycles l))
      (append_assoc before rs (y ∷ []))
      (past_later (course_of p cycles before) (course_of p cycles (before ++ rs))
      (course_of p cycles ((before ++ rs) ++ y ∷ [])) (past_more before rs) last)

  -- the windows are of one cycle, and after as many static ones
  pub record AreLevel (a b : List Recorded) : Type 0 where
    pub begun : (course_of p cycles a).begun ≡ (course_of p cycles b).begun
    pub statics : (course_of p cycles a).statics ≡ (course_of p cycles b).statics

  not_level : (before rs : List Recorded) (y : Recorded) → is_static y.window ≡ true
      → AreLevel before (before ++ (rs ++ y ∷ [])) → ⊥
  not_level before rs y static level =
      let begun = level.begun in
      let statics = level.statics in
      let less = (later_static before rs y static).1 begun in
      let none : ⊥ = omega (arith, statics, less) in none

  level_after : (before a b : List Recorded) (x y : Recorded) → x ≡ y → AreLevel (before ++ (x ∷ a)) (before ++ (y ∷ b))
      → AreLevel ((before ++ x ∷ []) ++ a) ((before ++ x ∷ []) ++ b)
  level_after before a b x y same level =
      subst (λ (l : List Recorded). AreLevel l ((before ++ x ∷ []) ++ b)) (sym (append_assoc before (x ∷ []) a))
      (subst (λ (l : List Recorded). AreLevel (before ++ (x ∷ a)) l) (sym (append_assoc before (x ∷ []) b))
      (subst (λ (z : Recorded). AreLevel (before ++ (x ∷ a)) (before ++ (z ∷ b))) (sym same) level))

  -- static windows that are level are the same one
  pub same_level : (before one two : List Recorded) (x y : Recorded) (rest more : List Recorded)
      → one ++ x ∷ rest ≡ two ++ y ∷ more → is_static x.window ≡ true → is_static y.window ≡ true
      → AreLevel (before ++ (one ++ x ∷ [])) (before ++ (two ++ y ∷ [])) → (one ≡ two) × (x ≡ y)
  same_level before [] [] x y rest more e static_x static_y level = (refl, same_head x y rest more e)
  same_level before [] (z ∷ two) x y rest more e static_x static_y level =
      let same : x ≡ z = same_head x z rest (two ++ y ∷ more) e in
      absurd (not_level (before ++ x ∷ []) two y static_y (subst (λ (l : List Recorded). AreLevel l
      ((before ++ x ∷ []) ++ (two ++ y ∷ []))) (append-nil (before ++ x ∷ []))
      (level_after before [] (two ++ y ∷ []) x z same level)))
  same_level before (z ∷ one) [] x y rest more e static_x static_y level =
      let same : y ≡ z = sym (same_head z y (one ++ x ∷ rest) more e) in
      absurd (not_level (before ++ y ∷ []) one x static_x (subst (λ (l : List Recorded). AreLevel l
      ((before ++ y ∷ []) ++ (one ++ x ∷ []))) (append-nil (before ++ y ∷ []))
      (level_after before [] (one ++ x ∷ []) y z same
      (record { begun = sym level.begun; statics = sym level.statics }))))
  same_level before (z ∷ one) (v ∷ two) x y rest more e static_x static_y level =
      let same : z ≡ v = same_head z v (one ++ x ∷ rest) (two ++ y ∷ more) e in
      let deeper = same_level (before ++ z ∷ []) one two x y rest more
      (same_tail z v (one ++ x ∷ rest) (two ++ y ∷ more) e) static_x static_y
      (level_after before (one ++ x ∷ []) (two ++ y ∷ []) z v same level) in
      ((λ i. same i ∷ deeper.0 i), deeper.1)

  -- ---- the slot of a static window

  slot_static : (channel : Channel) (number cycle slot : ℕ) → slot_of (static_window number cycle slot) channel
      ≡ Some slot
  slot_static A number cycle slot = refl
  slot_static B number cycle slot = refl

  slot_there : (channel : Channel) (x : Recorded) (slot number cycle k : ℕ) → x.window ≡ static_window number cycle k
      → slot_of x.window channel ≡ Some slot → k ≡ slot
  slot_there channel x slot number cycle k is slot_is =
      same_some k slot (sym (slot_static channel number cycle k) ∙ ap (λ (w : Opportunity). slot_of w channel) (sym is)
      ∙ slot_is)

  further_statics : (c : Standpoint) (number cycle a b : ℕ)
      → (passed c (static_window number cycle (c.statics + 1)) a b).statics ≡ c.statics + 1
  further_statics c number cycle a b = by (c.statics + 1 == 1) refl
    where
      by : (t : Bool) → (c.statics + 1 == 1) ≡ t
          → (cond t (first_passed c) (later_passed c (static_window number cycle (c.statics + 1)) a b)).statics
          ≡ c.statics + 1
      by true e = sym (eqb-true (c.statics + 1) 1 e)
      by false e = refl

  -- in its cycle as many static windows have come as its slot says
  pub statics_are : (before : List Recorded) (x : Recorded) (channel : Channel) (slot : ℕ)
      → following p cycles before ≡ Some x.window → is_static x.window ≡ true → slot_of x.window channel ≡ Some slot
      → (course_of p cycles (before ++ x ∷ [])).statics ≡ slot
  statics_are before x channel slot follows static slot_is = by (next_window p cycles before x.window follows)
    where
      by : IsNextOf (course_of p cycles before) x.window → (course_of p cycles (before ++ x ∷ [])).statics ≡ slot
      by (inl first) =
          ap (λ (c : Standpoint). c.statics) (after_first p cycles before x (course_of p cycles before).windows
          ((course_of p cycles before).begun % 64) first.is)
          ∙ slot_there channel x slot (course_of p cycles before).windows
          ((course_of p cycles before).begun % 64) 1 first.is slot_is
      by (inr (inl further)) =
          ap (λ (c : Standpoint). c.statics) (course_more p cycles before x)
          ∙ ap (λ (w : Opportunity).
          (passed (course_of p cycles before) w (longest A x.sent) (longest B x.sent)).statics) further.1.is
          ∙ further_statics (course_of p cycles before) (course_of p cycles before).windows
          (cycle_of (course_of p cycles before)) (longest A x.sent) (longest B x.sent)
          ∙ slot_there channel x slot (course_of p cycles before).windows (cycle_of (course_of p cycles before))
          ((course_of p cycles before).statics + 1) further.1.is slot_is
      by (inr (inr dynamic)) =
          let a : 1 ≤ first_minislot p (counts_on A (this_cycle before)) = omega arith in
          let b : 1 ≤ first_minislot p (counts_on B (this_cycle before)) = omega arith in
          let some = some_minislot (course_of p cycles before) dynamic.1.minislot a b dynamic.1.least in
          let none : (dynamic.1.minislot == 0) ≡ true = ap is_static (sym dynamic.1.is) ∙ static in
          let zero_is : dynamic.1.minislot ≡ 0 = eqb-true dynamic.1.minislot 0 none in
          absurd (let no : ⊥ = omega (arith, some, zero_is) in no)
