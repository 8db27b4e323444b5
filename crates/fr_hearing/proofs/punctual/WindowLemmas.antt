-- Window by window: the frames that a listener receives in a run without faults are on its schedule.
use Rattle.std.proofs.Common.{◌≡◌, ℕ, ◌+◌, ◌-◌, ◌*◌, ◌%◌, ◌<◌, ◌≤◌, Bool, true, false, cond, ◌&&◌, List, [], ◌∷◌, ◌++◌}
use Rattle.std.proofs.Common.{Option, Some, None, refl, sym, ap, subst, ◌∙◌, arith, ◌⊎◌, inl, inr}
use Rattle.std.specs.Prelude.{nat_le, nat_lt, unwrap_or}
use Rattle.std.proofs.lemmas.Bool.{cond-true, le-leb, lt-leb, lt-ltb, leb-true, ne_eqb}
use Rattle.std.proofs.lemmas.Nat.{mul-le, mod_below}
use Rattle.fr_bus.specs.Courses.{Standpoint, first_passed, course_of, cycle_of, opening}
use Rattle.fr_bus.specs.Outcome.{longest}
use Rattle.fr_bus.specs.Record.{Recorded}
use Rattle.fr_bus.specs.States.{IsRecorded}
use Rattle.fr_bus.specs.Windows.{cycles_begun}
use Rattle.fr_capture.specs.Moments.{start_of}
use Rattle.fr_core.proofs.CaseLemmas.{both, both_first, both_rest}
use Rattle.fr_frame.specs.Fields.{Fields}
use Rattle.fr_hearing.proofs.CourseLemmas.{last_after_frame}
use Rattle.fr_hearing.proofs.CycleLemmas.{AreHeardAt, has_owner, not_free}
use Rattle.fr_hearing.proofs.NextLemmas.{IsNextOf, next_window, after_first, after_static, after_dynamic, some_minislot}
use Rattle.fr_hearing.proofs.NextLemmas.{static_passed, dynamic_passed, lane_of, slot_opened, IsOpened, opened_is}
use Rattle.fr_hearing.proofs.PassageLemmas.{IsHeardAt, IsLoud, IsAt, IsStaticFrame, static_frame, static_none}
use Rattle.fr_hearing.proofs.PassageLemmas.{static_loud, static_quiet, first_at, dynamic_quiet, dynamic_loud}
use Rattle.fr_hearing.proofs.PassageLemmas.{further_dynamic}
use Rattle.fr_hearing.specs.Heard.{Spot, cycle_start, after_frame, IsFurther}
use Rattle.fr_hearing.specs.Listening.{IsThere}
use Rattle.fr_hearing.specs.Offering.{IsDueThere}
use Rattle.fr_hearing.specs.Schedule.{Timeline, IsTimelyAs, Timed, IsPunctual, IsAfter, cycle_length, slot_begins}
use Rattle.fr_hearing.specs.TimedRuns.{Bounds, IsWithin, bounds_as, bounds_of, time_due, NearIsWithin}
use Rattle.fr_judging.specs.Rules.{due_at as frame_due, is_clocked}
use Rattle.fr_schedule.specs.Clusters.{IsCluster}
use Rattle.fr_schedule.specs.Descriptions.{Description}
use Rattle.fr_slots.specs.declared.channel.Channel.{Channel}
use Rattle.fr_slots.specs.declared.channel.Channel.TheVariants.{A, B}
use Rattle.fr_slots.specs.History.{AllAfter}
use Rattle.fr_slots.specs.Parameters.{Parameters, IsParameters}
use Rattle.fr_slots.specs.Windows.{Opportunity, slot_of, is_static, static_window}
use Rattle.fr_timing.specs.declared.place.Place.TheVariants.{Static, Minislot}
use Rattle.fr_timing.specs.Division.{start_in_row, start_at}
use Rattle.fr_timing.specs.Segments.{dynamic_start}

-- ---- the start of a window

pub row_within : (first count part k limit : ℕ) → first + count * part ≤ limit
    → unwrap_or (start_in_row first count part k 0) 0 ≤ limit
row_within first count part k limit fits =
    by (nat_le 1 k && nat_le k count && nat_lt 0 part) refl
  where
    by : (b : Bool) → (nat_le 1 k && nat_le k count && nat_lt 0 part) ≡ b
        → unwrap_or (cond b (Some (first + (k - 1) * part + 0)) None) 0 ≤ limit
    by false e = omega arith
    by true e =
        let most : k ≤ count = leb-true k count (both_rest (nat_le 1 k) (nat_le k count)
        (both_first (nat_le 1 k && nat_le k count) (nat_lt 0 part) e)) in
        let less : (k - 1) * part ≤ count * part = mul-le (k - 1) part count part (omega (arith, most)) (omega arith) in
        omega (arith, less, fits)

module _ (p : Parameters) (lawful : IsParameters p) where
  pub start_within : (w : Opportunity) → start_of p w ≤ p.cycle_mt
  unfolding start_at
  start_within w = by (is_static w)
    where
      fills : p.static_slots * p.static_mt + p.minislots * p.minislot_mt + p.symbol_mt + p.nit_mt ≡ p.cycle_mt
      fills = lawful.fills_the_cycle

      by : (b : Bool) → unwrap_or (start_at p (cond b (Static (unwrap_or w.a 1) 0) (Minislot w.minislot 0))) 0
          ≤ p.cycle_mt
      by true = row_within 0 p.static_slots p.static_mt (unwrap_or w.a 1) p.cycle_mt (omega (arith, fills))
      by false = row_within (dynamic_start p) p.minislots p.minislot_mt w.minislot p.cycle_mt (omega (arith, fills))

  static_start : (number cycle slot : ℕ) → 1 ≤ slot → slot ≤ p.static_slots
      → start_of p (static_window number cycle slot) ≡ (slot - 1) * p.static_mt
  unfolding start_at
  static_start number cycle slot from most =
      let some : 1 ≤ p.static_mt = lawful.static_mt_fit.from_least in
      ap (λ (o : Option ℕ). unwrap_or o 0)
      (cond-true (nat_le 1 slot && nat_le slot p.static_slots && nat_lt 0 p.static_mt)
      (Some (0 + (slot - 1) * p.static_mt + 0)) None
      (both (nat_le 1 slot && nat_le slot p.static_slots) (nat_lt 0 p.static_mt)
      (both (nat_le 1 slot) (nat_le slot p.static_slots) (le-leb 1 slot from) (le-leb slot p.static_slots most))
      (lt-ltb 0 p.static_mt (omega (arith, some)))))
      ∙ (let none : 0 + (slot - 1) * p.static_mt + 0 ≡ (slot - 1) * p.static_mt = omega arith in none)

pub near_is_within : NearIsWithin
near_is_within p t before r time lawful near = by (is_static r.window)
  where
    by : (b : Bool) → IsWithin t.slack time
        (bounds_as p t (cycles_begun (before ++ r ∷ []) - 1) (time_due p t before r) b)
    by true = record { not_early = near.not_early; not_late = near.not_late }
    by false =
        let few : start_of p r.window * t.macrotick ≤ p.cycle_mt * t.macrotick =
        mul-le (start_of p r.window) t.macrotick p.cycle_mt t.macrotick (start_within p lawful r.window)
        (omega arith) in
        let early = near.not_early in
        let late = near.not_late in
        record { not_early = omega (arith, early); not_late = omega (arith, few, late) }

-- ---- the frames of the schedule

-- the frame of a window, with its cycle and the bounds of its time
pub record Placed : Type 0 where
  pub frame : Fields
  pub cycle : ℕ
  pub bounds : Bounds

abbrev pub at_time : Placed → ℕ → Timed
at_time x time = record { frame = x.frame; cycle = x.cycle; time = time }

-- it is in time at each time within its bounds
abbrev pub IsPlaced : Parameters → Timeline → Placed → Type 0
IsPlaced p t x = (time : ℕ) → IsWithin t.slack time x.bounds → IsPunctual p t (at_time x time)

-- no time matters here
abbrev pub Follows : Placed → Placed → Type 0
Follows x y = IsAfter (at_time x 0) (at_time y 0)

abbrev pub ContinueInPlace : Parameters → Timeline → Placed → List Placed → Type 0
ContinueInPlace p t x [] = Unit {0}
ContinueInPlace p t x (y ∷ ys) = Follows x y × IsPlaced p t y × ContinueInPlace p t y ys

abbrev pub ArePlaced : Parameters → Timeline → List Placed → Type 0
ArePlaced p t [] = Unit {0}
ArePlaced p t (x ∷ xs) = IsPlaced p t x × ContinueInPlace p t x xs

abbrev pub placed_of : Parameters → Timeline → List Recorded → Recorded → Fields → Placed
placed_of p t before r f =
    record { frame = f; cycle = cycles_begun (before ++ r ∷ []) - 1; bounds = bounds_of p t before r }

abbrev pub with_placed : (d : Description) (t : Timeline) (channel : Channel) (before : List Recorded) (r : Recorded)
    → IsHeardAt d channel r → List Placed → List Placed
with_placed d t channel before r (inl quiet) xs = xs
with_placed d t channel before r (inr loud) xs = placed_of d.params t before r loud.frame ∷ xs

abbrev pub placed_frames : (d : Description) (t : Timeline) (channel : Channel) (before rs : List Recorded)
    → AreHeardAt d channel rs → List Placed
placed_frames d t channel before [] h = []
placed_frames d t channel before (r ∷ rs) h =
    with_placed d t channel before r h.0 (placed_frames d t channel (before ++ r ∷ []) rs h.1)

-- the frames after the last one, if there is one
abbrev NextTo : Option Placed → Placed → Type 0
NextTo None y = Unit {0}
NextTo (Some x) y = Follows x y

abbrev After : Parameters → Timeline → Option Placed → List Placed → Type 0
After p t None xs = ArePlaced p t xs
After p t (Some x) xs = ContinueInPlace p t x xs

after_one : (p : Parameters) (t : Timeline) (last : Option Placed) (y : Placed) (ys : List Placed) → NextTo last y
    → IsPlaced p t y → ContinueInPlace p t y ys → After p t last (y ∷ ys)
after_one p t None y ys next punctual more = (punctual, more)
after_one p t (Some x) y ys next punctual more = (next, punctual, more)

after_none : (p : Parameters) (t : Timeline) (last : Option Placed) → After p t last []
after_none p t None = tt
after_none p t (Some x) = tt

-- ---- a place in the course of a run

-- The last frame was heard in the open cycle, or in the one before. If there is none, this is the first cycle.
abbrev IsLast : Option Placed → Spot → ℕ → Type 0
IsLast None s begun = (begun ≡ 1) × (s.last ≡ 0)
IsLast (Some x) s begun =
    ((x.cycle + 1 ≡ begun) × (s.last ≡ x.frame.id)) ⊎ ((x.cycle + 2 ≡ begun) × (s.last ≡ 0))

-- a frame of the open cycle
within_cycle : (last : Option Placed) (s : Spot) (begun : ℕ) (y : Placed) → 1 ≤ begun → IsLast last s begun
    → y.cycle ≡ begun - 1 → s.last < y.frame.id → NextTo last y
within_cycle None s begun y some is cycle later = tt
within_cycle (Some x) s begun y some (inl is) cycle later =
    let same = is.0 in
    let id = is.1 in
    inl ((let e : y.cycle ≡ x.cycle = omega (arith, same, cycle) in e), omega (arith, id, later))
within_cycle (Some x) s begun y some (inr is) cycle later =
    let before = is.0 in
    inr (let e : y.cycle ≡ x.cycle + 1 = omega (arith, before, cycle) in e)

module _ (d : Description) (channel : Channel) (t : Timeline) (cluster : IsCluster d) where
  abbrev p : Parameters
  p = d.params

  -- ---- each frame is in time

  static_placed : (before : List Recorded) (r : Recorded) (f : Fields) (number cycle slot n : ℕ)
      → r.window ≡ static_window number cycle slot → f.id ≡ slot → f.cycle ≡ cycle → 1 ≤ slot
      → slot ≤ d.params.static_slots → cycles_begun (before ++ r ∷ []) - 1 ≡ n → cycle ≡ n % 64
      → IsPlaced d.params t (placed_of d.params t before r f)
  static_placed before r f number cycle slot n is id count from most begun at time within =
      let due : time_due d.params t before r ≡ slot_begins d.params t (cycles_begun (before ++ r ∷ []) - 1) f.id =
      ap (λ (k : ℕ). t.starts (cycles_begun (before ++ r ∷ []) - 1) + k * t.macrotick)
      (ap (start_of d.params) is ∙ static_start d.params cluster.params_are number cycle slot from most
      ∙ ap (λ (k : ℕ). (k - 1) * d.params.static_mt) (sym id))
      ∙ spread (t.starts (cycles_begun (before ++ r ∷ []) - 1)) (f.id - 1) d.params.static_mt t.macrotick in
      let static : nat_le f.id d.params.static_slots ≡ true =
      le-leb f.id d.params.static_slots (omega (arith, id, most)) in
      let near : IsWithin t.slack time (record {
        earliest = time_due d.params t before r;
        latest = time_due d.params t before r;
      }) =
      subst (λ (b : Bool). IsWithin t.slack time (bounds_as d.params t (cycles_begun (before ++ r ∷ []) - 1)
      (time_due d.params t before r) b)) (ap is_static is) within in
      let early = near.not_early in
      let late = near.not_late in
      record {
        count_is = count ∙ at ∙ ap (λ (k : ℕ). k % 64) (sym begun);
        from_one = omega (arith, id, from);
        some_minislot = λ e. absurd (let both : true ≡ false = sym static ∙ e in let none : ⊥ = cc in none);
        timely = subst (IsTimelyAs d.params t (cycles_begun (before ++ r ∷ []) - 1) f.id time) (sym static)
            (record { not_late = omega (arith, due, late); not_early = omega (arith, due, early) });
      }
    where
      spread : (start k s tick : ℕ) → start + (k * s) * tick ≡ start + k * (s * tick)
      spread start k s tick = omega arith

  dynamic_placed : (before : List Recorded) (r : Recorded) (f : Fields) (n : ℕ)
      → nat_le f.id d.params.static_slots ≡ false → 1 ≤ f.id → 1 ≤ d.params.minislots
      → f.cycle ≡ n % 64 → cycles_begun (before ++ r ∷ []) - 1 ≡ n → is_static r.window ≡ false
      → IsPlaced d.params t (placed_of d.params t before r f)
  dynamic_placed before r f n dynamic from some count begun is time within =
      let inside : IsWithin t.slack time (record {
        earliest = t.starts (cycles_begun (before ++ r ∷ []) - 1);
        latest = t.starts (cycles_begun (before ++ r ∷ []) - 1) + cycle_length d.params t;
      }) =
      subst (λ (b : Bool). IsWithin t.slack time (bounds_as d.params t (cycles_begun (before ++ r ∷ []) - 1)
      (time_due d.params t before r) b)) is within in
      record {
        count_is = count ∙ ap (λ (k : ℕ). k % 64) (sym begun);
        from_one = from;
        some_minislot = λ e. some;
        timely = subst (IsTimelyAs d.params t (cycles_begun (before ++ r ∷ []) - 1) f.id time) (sym dynamic)
            (record { not_early = inside.not_early; not_late = inside.not_late });
      }

  -- ---- each window

  module _ (cycles : ℕ) (clocked : (cycle : ℕ) → cycle < 64 → is_clocked d channel cycle ≡ true) where
    abbrev course : List Recorded → Standpoint
    course before = course_of d.params cycles before

    -- what is known after a window leads on
    abbrev LeadsOn : List Recorded → List Placed → Type 0
    LeadsOn before xs = (last : Option Placed) (s : Spot) → IsAt d channel (course before) s
        → IsLast last s (course before).begun → After d.params t last xs

    -- a cycle is over, so a frame was heard in it
    was_heard : (before : List Recorded) (last : Option Placed) (s : Spot) → IsAt d channel (course before) s
        → d.params.static_slots ≤ (course before).statics → IsLast last s (course before).begun
        → (x : Placed) × (last ≡ Some x) × (x.cycle + 1 ≡ (course before).begun)
    was_heard before last s at over is = by last is
      where
        free : s.last ≡ 0 → ⊥
        free none =
            let fits : s.cycle < 64 = subst (λ (n : ℕ). n < 64) (sym at.cycle_is)
            (mod_below ((course before).begun - 1) 64 (omega arith)) in
            not_free d channel s.cycle (has_owner d channel s.cycle cluster fits (clocked s.cycle fits))
            (λ k low high. at.free k (omega (arith, low, none)) (omega (arith, high, over)))

        by : (o : Option Placed) → IsLast o s (course before).begun
            → (x : Placed) × (o ≡ Some x) × (x.cycle + 1 ≡ (course before).begun)
        by None e = absurd (free e.1)
        by (Some x) (inl e) = (x, refl, e.0)
        by (Some x) (inr e) = absurd (free e.1)

    -- the first window of a cycle, after this last frame or none
    first_window : (before : List Recorded) (r : Recorded) (heard_is : IsHeardAt d channel r) (xs : List Placed)
        (last : Option Placed) → r.window ≡ static_window (course before).windows ((course before).begun % 64) 1
        → ((y : Placed) → y.cycle ≡ (course before).begun → NextTo last y)
        → IsLast last (cycle_start d.params ((course before).begun % 64)) ((course before).begun + 1)
        → LeadsOn (before ++ r ∷ []) xs → After d.params t last (with_placed d t channel before r heard_is xs)
    first_window before r (inl quiet) xs last is next none rest =
        let c : Standpoint = course before in
        let e : course (before ++ r ∷ []) ≡ first_passed (course before) =
        after_first d.params cycles before r (course before).windows ((course before).begun % 64) is in
        rest last (record (cycle_start d.params ((course before).begun % 64)) { last = 0 })
        (subst (λ (q : Standpoint). IsAt d channel q (record (cycle_start d.params ((course before).begun % 64))
        { last = 0 })) (sym e)
        (first_at d channel cluster (course before) 0 refl (omega arith)
        (λ k low high. let same : k ≡ 1 = omega (arith, low, high) in
        ap (λ (n : ℕ). frame_due d n channel ((course before).begun % 64)) same
        ∙ static_none d channel r (course before).windows ((course before).begun % 64) 1 is quiet)))
        (subst (IsLast last (cycle_start d.params ((course before).begun % 64)))
        (sym (ap (λ (q : Standpoint). q.begun) e)) none)
    first_window before r (inr loud) xs last is next none rest =
        let some : 2 ≤ d.params.static_slots = cluster.params_are.static_slots_fit.from_least in
        let frame : IsStaticFrame d channel ((course before).begun % 64) 1 loud.frame =
        static_frame d channel r (course before).windows ((course before).begun % 64) 1 is loud in
        let e : course (before ++ r ∷ []) ≡ first_passed (course before) =
        after_first d.params cycles before r (course before).windows ((course before).begun % 64) is in
        let begun : (course (before ++ r ∷ [])).begun ≡ (course before).begun + 1 =
        ap (λ (q : Standpoint). q.begun) e in
        let y : Placed = placed_of d.params t before r loud.frame in
        let now : (course (before ++ r ∷ [])).begun - 1 ≡ (course before).begun = omega (arith, begun) in
        after_one d.params t last y xs (next y now)
        (static_placed before r loud.frame (course before).windows ((course before).begun % 64) 1
        (course before).begun is frame.id_is frame.cycle_is (omega arith) (omega (arith, some)) now refl)
        (rest (Some y) (record (cycle_start d.params ((course before).begun % 64)) { last = 1 })
        (subst (λ (q : Standpoint). IsAt d channel q (record (cycle_start d.params ((course before).begun % 64))
        { last = 1 })) (sym e)
        (first_at d channel cluster (course before) 1 refl (omega arith)
        (λ k low high. absurd (let none : ⊥ = omega (arith, low, high) in none))))
        (inl (
          (let same : (course (before ++ r ∷ [])).begun - 1 + 1 ≡ (course (before ++ r ∷ [])).begun =
              omega (arith, begun) in same),
          sym frame.id_is,
        )))

    static_next : (before : List Recorded) (r : Recorded) (heard_is : IsHeardAt d channel r) (xs : List Placed)
        (last : Option Placed) (s : Spot) → IsAt d channel (course before) s
        → (course before).statics < d.params.static_slots
        → r.window ≡ static_window (course before).windows (cycle_of (course before)) ((course before).statics + 1)
        → IsLast last s (course before).begun
        → LeadsOn (before ++ r ∷ []) xs → After d.params t last (with_placed d t channel before r heard_is xs)
    static_next before r (inl quiet) xs last s at further is here rest =
        let e : course (before ++ r ∷ []) ≡ static_passed (course before) =
        after_static d.params cycles before r (course before).windows (cycle_of (course before))
        (course before).statics at.some_static is in
        rest last s
        (subst (λ (q : Standpoint). IsAt d channel q s) (sym e)
        (static_quiet d channel cluster (course before) s at further
        (ap (λ (n : ℕ). frame_due d ((course before).statics + 1) channel n) at.cycle_is
        ∙ static_none d channel r (course before).windows (cycle_of (course before)) ((course before).statics + 1) is
        quiet)))
        (subst (IsLast last s) (sym (ap (λ (q : Standpoint). q.begun) e)) here)
    static_next before r (inr loud) xs last s at further is here rest =
        let frame : IsStaticFrame d channel (cycle_of (course before)) ((course before).statics + 1) loud.frame =
        static_frame d channel r (course before).windows (cycle_of (course before)) ((course before).statics + 1) is
        loud in
        let e : course (before ++ r ∷ []) ≡ static_passed (course before) =
        after_static d.params cycles before r (course before).windows (cycle_of (course before))
        (course before).statics at.some_static is in
        let begun : (course (before ++ r ∷ [])).begun ≡ (course before).begun =
        ap (λ (q : Standpoint). q.begun) e in
        let y : Placed = placed_of d.params t before r loud.frame in
        let now : (course (before ++ r ∷ [])).begun - 1 ≡ (course before).begun - 1 = omega (arith, begun) in
        let some = at.some_cycle in
        let id = frame.id_is in
        let low = at.behind further in
        after_one d.params t last y xs
        (within_cycle last s (course before).begun y at.some_cycle here now (omega (arith, id, low)))
        (static_placed before r loud.frame (course before).windows (cycle_of (course before))
        ((course before).statics + 1) ((course before).begun - 1) is frame.id_is frame.cycle_is (omega arith)
        (omega (arith, further)) now refl)
        (rest (Some y) (record s { last = (course before).statics + 1 })
        (subst (λ (q : Standpoint). IsAt d channel q (record s { last = (course before).statics + 1 })) (sym e)
        (static_loud d channel cluster (course before) s at further))
        (inl (
          (let same : (course (before ++ r ∷ [])).begun - 1 + 1 ≡ (course (before ++ r ∷ [])).begun =
              omega (arith, begun, some) in same),
          sym frame.id_is,
        )))

    -- the row that a window opens
    row_of : (before : List Recorded) (r : Recorded) (l : IsLoud d channel r) (m : ℕ)
        → r.window ≡ opening (course before) m → IsOpened (lane_of channel (course before)) m l.slot
    row_of before r l m is =
        opened_is (lane_of channel (course before)) m l.slot (sym (slot_opened channel (course before) m)
        ∙ ap (λ (w : Opportunity). slot_of w channel) (sym is) ∙ l.slot_is)

    not_static : (before : List Recorded) (r : Recorded) (m : ℕ) → 1 ≤ m → r.window ≡ opening (course before) m
        → is_static r.window ≡ false
    not_static before r m some is =
        ap is_static is ∙ ne_eqb m 0 (λ same. let none : ⊥ = omega (arith, some, same) in none)

    -- its frame is a dynamic one
    dynamic_id : (before : List Recorded) (r : Recorded) (l : IsLoud d channel r) (s : Spot) (m : ℕ)
        → IsAt d channel (course before) s → 1 ≤ m → r.window ≡ opening (course before) m
        → nat_le l.frame.id d.params.static_slots ≡ false
    dynamic_id before r l s m at some is =
        let o : IsOpened (lane_of channel (course before)) m l.slot = row_of before r l m is in
        let due : IsDueThere d r.window channel l.slot l.frame =
        subst (λ (b : Bool). IsThere d r.window channel l.slot l.frame b)
        (not_static before r m some is) l.is_there in
        let id = due.id_is in
        let slot = o.slot_is in
        let most = at.lane.dynamic_slot in
        lt-leb l.frame.id d.params.static_slots (omega (arith, id, slot, most))

    some_segment : (before : List Recorded) (r : Recorded) (l : IsLoud d channel r) (s : Spot) (m : ℕ)
        → IsAt d channel (course before) s → 1 ≤ m → r.window ≡ opening (course before) m → 1 ≤ d.params.minislots
    some_segment before r l s m at some is =
        let o : IsOpened (lane_of channel (course before)) m l.slot = row_of before r l m is in
        let begins = o.begins in
        let within = o.within in
        let segment : (lane_of channel (course before)).params.minislots ≡ d.params.minislots =
        ap (λ (q : Parameters). q.minislots) at.lane.params_are in
        omega (arith, begins, within, segment, some)

    dynamic_next : (before : List Recorded) (r : Recorded) (heard_is : IsHeardAt d channel r) (xs : List Placed)
        (last : Option Placed) (s : Spot) (m : ℕ) → IsAt d channel (course before) s → 1 ≤ m
        → d.params.static_slots ≤ (course before).statics → r.window ≡ opening (course before) m
        → IsLast last s (course before).begun
        → LeadsOn (before ++ r ∷ []) xs → After d.params t last (with_placed d t channel before r heard_is xs)
    dynamic_next before r (inl quiet) xs last s m at some over is here rest =
        let e : course (before ++ r ∷ [])
        ≡ dynamic_passed (course before) m (longest A r.sent) (longest B r.sent) =
        after_dynamic d.params cycles before r m some is in
        rest last s
        (subst (λ (q : Standpoint). IsAt d channel q s) (sym e)
        (dynamic_quiet d channel cluster (course before) m r is some over s at quiet.none))
        (subst (IsLast last s) (sym (ap (λ (q : Standpoint). q.begun) e)) here)
    dynamic_next before r (inr loud) xs last s m at some over is here rest =
        let e : course (before ++ r ∷ [])
        ≡ dynamic_passed (course before) m (longest A r.sent) (longest B r.sent) =
        after_dynamic d.params cycles before r m some is in
        let begun : (course (before ++ r ∷ [])).begun ≡ (course before).begun =
        ap (λ (q : Standpoint). q.begun) e in
        let further : IsFurther d channel s loud.frame =
        further_dynamic d channel cluster (course before) m r is some over s at loud in
        let y : Placed = placed_of d.params t before r loud.frame in
        let now : (course (before ++ r ∷ [])).begun - 1 ≡ (course before).begun - 1 = omega (arith, begun) in
        let one = at.some_cycle in
        after_one d.params t last y xs
        (within_cycle last s (course before).begun y at.some_cycle here now further.later)
        (dynamic_placed before r loud.frame ((course before).begun - 1) (dynamic_id before r loud s m at some is)
        further.allowed.slot_is (some_segment before r loud s m at some is)
        (further.same_cycle ∙ at.cycle_is) now (not_static before r m some is))
        (rest (Some y) (after_frame d.params s loud.frame)
        (subst (λ (q : Standpoint). IsAt d channel q (after_frame d.params s loud.frame)) (sym e)
        (dynamic_loud d channel cluster (course before) m r is some over s at loud))
        (inl (
          (let same : (course (before ++ r ∷ [])).begun - 1 + 1 ≡ (course (before ++ r ∷ [])).begun =
              omega (arith, begun, one) in same),
          last_after_frame d.params s loud.frame,
        )))

    -- ---- all windows

    step : (before : List Recorded) (r : Recorded) (heard_is : IsHeardAt d channel r) (xs : List Placed)
        (last : Option Placed) (s : Spot) → IsAt d channel (course before) s → IsLast last s (course before).begun
        → IsNextOf (course before) r.window
        → LeadsOn (before ++ r ∷ []) xs → After d.params t last (with_placed d t channel before r heard_is xs)
    step before r heard_is xs last s at here (inl first) rest =
        let heard = was_heard before last s at (first.over at.some_window) here in
        let next = heard.2 in
        first_window before r heard_is xs last first.is
        (λ y cycle. subst (λ (o : Option Placed). NextTo o y) (sym heard.1)
        (inr (let e : y.cycle ≡ heard.0.cycle + 1 = omega (arith, next, cycle) in e)))
        (subst (λ (o : Option Placed). IsLast o (cycle_start d.params ((course before).begun % 64))
        ((course before).begun + 1)) (sym heard.1)
        (inr ((let e : heard.0.cycle + 2 ≡ (course before).begun + 1 = omega (arith, next) in e), refl)))
        rest
    step before r heard_is xs last s at here (inr (inl static)) rest =
        static_next before r heard_is xs last s at static.1.further static.1.is here rest
    step before r heard_is xs last s at here (inr (inr dynamic)) rest =
        dynamic_next before r heard_is xs last s dynamic.1.minislot at
        (some_minislot (course before) dynamic.1.minislot at.begins_a at.begins_b dynamic.1.least) dynamic.1.over
        dynamic.1.is here rest

    follow : (before rs : List Recorded) (h : AreHeardAt d channel rs) → AllAfter (IsRecorded d cycles) before rs
        → LeadsOn before (placed_frames d t channel before rs h)
    unfolding AllAfter
    follow before [] h all last s at here = after_none d.params t last
    follow before (r ∷ rs) h all last s at here =
        step before r h.0 (placed_frames d t channel (before ++ r ∷ []) rs h.1) last s at here
        (next_window d.params cycles before r.window all.0.0) (follow (before ++ r ∷ []) rs h.1 all.1)

    -- the whole record
    pub frames_in_time : (rs : List Recorded) (h : AreHeardAt d channel rs) → AllAfter (IsRecorded d cycles) [] rs
        → ArePlaced d.params t (placed_frames d t channel [] rs h)
    unfolding AllAfter
    frames_in_time [] h all = tt
    frames_in_time (r ∷ rs) h all = by (next_window d.params cycles [] r.window all.0.0)
      where
        by : IsNextOf (course []) r.window
            → ArePlaced d.params t (placed_frames d t channel [] (r ∷ rs) h)
        by (inl first) =
            first_window [] r h.0 (placed_frames d t channel (r ∷ []) rs h.1) None first.is (λ y cycle. tt)
            (refl, refl) (follow (r ∷ []) rs h.1 all.1)
        by (inr (inl static)) = absurd (let one = static.0 in let none : ⊥ = omega (arith, one) in none)
        by (inr (inr dynamic)) = absurd (let one = dynamic.0 in let none : ⊥ = omega (arith, one) in none)
