-- One more window of a run.
use Rattle.std.proofs.Common.{◌≡◌, ℕ, ◌+◌, Bool, true, false, cond, List, [], ◌∷◌, ◌++◌, length, length-append, map}
use Rattle.std.proofs.Common.{refl, sym, ap, ◌∙◌, arith}
use Rattle.std.proofs.lemmas.List.{map-append, append-nil}
use Rattle.std.proofs.lemmas.List.Elements.{filter-append}
use Rattle.std.proofs.lemmas.List.Sums.{sum_by-append}
use Rattle.std.specs.Prelude.{count_by, ◌&&◌, not, is_some}
use Rattle.std.specs.List.{filter, fold}
use Rattle.fr_bus.specs.Courses.{lane_on, course_of, ended, first_passed, later_passed, course_after}
use Rattle.fr_bus.specs.Windows.{begins_cycle, cycles_begun, with_window, this_cycle, is_row_of}
use Rattle.fr_slots.specs.Windows.{is_first_slot}
use Rattle.fr_bus.specs.Windows.{counts_on, is_static_one, statics_of}
use Rattle.fr_bus.specs.Outcome.{longest}
use Rattle.fr_bus.specs.Record.{Recorded}
use Rattle.fr_minislot.proofs.RowLemmas.{closed_more}
use Rattle.fr_minislot.specs.Lanes.{standing_after, closed}
use Rattle.fr_slots.specs.declared.channel.Channel.{Channel}
use Rattle.fr_slots.specs.declared.channel.Channel.TheVariants.{A, B}
use Rattle.fr_slots.specs.Parameters.{Parameters}

zero_more : (n : ℕ) → n + 0 ≡ n
zero_more n = omega arith

pub fold_more : {X Y : Type 0} (f : Y → X → Y) (y : Y) (xs : List X) (x : X)
    → fold f y (xs ++ x ∷ []) ≡ f (fold f y xs) x
fold_more f y [] x = refl
fold_more f y (z ∷ xs) x = fold_more f (f y z) xs x

filter_more : {X : Type 0} (test : X → Bool) (xs : List X) (x : X) (b : Bool) → test x ≡ b
    → filter test (xs ++ x ∷ []) ≡ filter test xs ++ cond b (x ∷ []) []
filter_more test xs x b e = filter-append test xs (x ∷ []) ∙ ap (λ c. filter test xs ++ cond c (x ∷ []) []) e

count_more : {X : Type 0} (test : X → Bool) (xs : List X) (x : X) (b : Bool) → test x ≡ b
    → count_by test (xs ++ x ∷ []) ≡ count_by test xs + cond b 1 0
count_more test xs x b e =
    let one : cond {A = ℕ} (test x) 1 0 ≡ cond {A = ℕ} b 1 0 = ap (λ (c : Bool). cond {A = ℕ} c 1 0) e in
    omega (arith, one, sum_by-append (λ y. cond {A = ℕ} (test y) 1 0) xs (x ∷ []))

pub counts_more : (channel : Channel) (done : List Recorded) (r : Recorded) (b : Bool) → is_row_of channel r ≡ b
    → counts_on channel (done ++ r ∷ []) ≡ counts_on channel done ++ cond b (longest channel r.sent ∷ []) []
counts_more channel done r true e =
    ap (λ (rs : List Recorded). map (λ (s : Recorded). longest channel s.sent) rs)
    (filter_more (is_row_of channel) done r true e)
    ∙ map-append (λ (s : Recorded). longest channel s.sent) (filter (is_row_of channel) done) (r ∷ [])
counts_more channel done r false e =
    ap (λ (rs : List Recorded). map (λ (s : Recorded). longest channel s.sent) rs)
    (filter_more (is_row_of channel) done r false e)
    ∙ map-append (λ (s : Recorded). longest channel s.sent) (filter (is_row_of channel) done) []

lane_more : (p : Parameters) (channel : Channel) (done : List Recorded) (r : Recorded) (b : Bool)
    → is_row_of channel r ≡ b
    → lane_on p channel (done ++ r ∷ []) ≡ cond b (closed (lane_on p channel done) (longest channel r.sent))
    (lane_on p channel done)
lane_more p channel done r true e =
    ap (standing_after p) (counts_more channel done r true e) ∙ sym
    (closed_more p (counts_on channel done) (longest channel r.sent))
lane_more p channel done r false e =
    ap (standing_after p) (counts_more channel done r false e ∙ append-nil (counts_on channel done))

windows_more : (rs : List Recorded) (r : Recorded) → length (rs ++ r ∷ []) ≡ length rs + 1
windows_more rs r = length-append rs (r ∷ [])

-- the first window of a cycle
first_more : (p : Parameters) (cycles : ℕ) (rs : List Recorded) (r : Recorded) → begins_cycle r ≡ true
    → course_of p cycles (rs ++ r ∷ []) ≡ first_passed (course_of p cycles rs)
first_more p cycles rs r e =
    let cycle : this_cycle (rs ++ r ∷ []) ≡ r ∷ [] = fold_more with_window [] rs r ∙ afresh (begins_cycle r) e in
    let windows = windows_more rs r in
    let begun : cycles_begun (rs ++ r ∷ []) ≡ cycles_begun rs + 1 = count_more begins_cycle rs r true e in
    let static = is_static_if (is_static_one r) (is_first_slot r.window.a) e in
    let statics : statics_of (this_cycle (rs ++ r ∷ [])) ≡ 1 =
    ap statics_of cycle ∙ count_more is_static_one [] r true static in
    let a : lane_on p A (this_cycle (rs ++ r ∷ [])) ≡ standing_after p [] =
    ap (lane_on p A) cycle ∙ lane_more p A [] r false (no_row (is_static_one r) (is_some r.window.a) static) in
    let b : lane_on p B (this_cycle (rs ++ r ∷ [])) ≡ standing_after p [] =
    ap (lane_on p B) cycle ∙ lane_more p B [] r false (no_row (is_static_one r) (is_some r.window.b) static) in
    λ i. record {
      params = p;
      cycles = cycles;
      windows = windows i;
      begun = begun i;
      statics = statics i;
      a = a i;
      b =
          b i;
    }
  where
    afresh : (c : Bool) → c ≡ true → cond c (r ∷ []) (this_cycle rs ++ r ∷ []) ≡ r ∷ []
    afresh true is = refl
    afresh false is = absurd (let none : ⊥ = cc in none)

    is_static_if : (s f : Bool) → (s && f) ≡ true → s ≡ true
    is_static_if true f is = refl
    is_static_if false f is = is

    no_row : (s o : Bool) → s ≡ true → (not s && o) ≡ false
    no_row true o is = refl
    no_row false o is = absurd (let none : ⊥ = cc in none)

-- any other window
later_more : (p : Parameters) (cycles : ℕ) (rs : List Recorded) (r : Recorded) → begins_cycle r ≡ false
    → course_of p cycles (rs ++ r ∷ []) ≡ later_passed (course_of p cycles rs) r.window (longest A r.sent)
    (longest B r.sent)
later_more p cycles rs r e =
    let cycle : this_cycle (rs ++ r ∷ []) ≡ this_cycle rs ++ r ∷ [] =
    fold_more with_window [] rs r ∙ going (begins_cycle r) e in
    let windows = windows_more rs r in
    let begun : cycles_begun (rs ++ r ∷ []) ≡ cycles_begun rs =
    count_more begins_cycle rs r false e ∙ zero_more (cycles_begun rs) in
    let statics : statics_of (this_cycle (rs ++ r ∷ [])) ≡ statics_of (this_cycle rs) + cond (is_static_one r) 1 0 =
    ap statics_of cycle ∙ count_more is_static_one (this_cycle rs) r (is_static_one r) refl in
    let a : lane_on p A (this_cycle (rs ++ r ∷ [])) ≡ ended A (lane_on p A (this_cycle rs)) r.window
    (longest A r.sent) = ap (lane_on p A) cycle ∙ lane_more p A (this_cycle rs) r (is_row_of A r) refl in
    let b : lane_on p B (this_cycle (rs ++ r ∷ [])) ≡ ended B (lane_on p B (this_cycle rs)) r.window
    (longest B r.sent) = ap (lane_on p B) cycle ∙ lane_more p B (this_cycle rs) r (is_row_of B r) refl in
    λ i. record {
      params = p;
      cycles = cycles;
      windows = windows i;
      begun = begun i;
      statics = statics i;
      a = a i;
      b =
          b i;
    }
  where
    going : (c : Bool) → c ≡ false → cond c (r ∷ []) (this_cycle rs ++ r ∷ []) ≡ this_cycle rs ++ r ∷ []
    going true is = absurd (let none : ⊥ = cc in none)
    going false is = refl

-- the progress of a run with one more window
pub course_more : (p : Parameters) (cycles : ℕ) (rs : List Recorded) (r : Recorded)
    → course_of p cycles (rs ++ r ∷ []) ≡ course_after (course_of p cycles rs) r
course_more p cycles rs r = by_case (begins_cycle r) refl
  where
    by_case : (b : Bool) → begins_cycle r ≡ b
        → course_of p cycles (rs ++ r ∷ []) ≡ cond b (first_passed (course_of p cycles rs))
        (later_passed (course_of p cycles rs) r.window (longest A r.sent) (longest B r.sent))
    by_case true e = first_more p cycles rs r e
    by_case false e = later_more p cycles rs r e
