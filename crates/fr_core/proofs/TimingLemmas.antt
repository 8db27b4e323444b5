-- The cycle of a static window is its run cycle's.
use Rattle.std.proofs.Common.{◌≡◌, ◌≤◌, ◌<◌, ℕ, zero, suc, ◌+◌, ◌-◌, ◌%◌, Bool, true, false, cond, List, [], ◌∷◌}
use Rattle.std.proofs.Common.{◌++◌, length, take, Option, Some, None, refl, sym, ap, subst, ◌∙◌, arith, option_map}
use Rattle.std.specs.Prelude.{◌==◌, nat_lt, count_by, slice_get}
use Rattle.std.specs.List.{find, fold, range_with_len}
use Rattle.std.specs.Option.{option_or}
use Rattle.std.proofs.lemmas.Bool.{ne_eqb}
use Rattle.std.proofs.lemmas.List.Sums.{sum_by-append}
use Rattle.fr_core.specs.Accounts.{is_window_of, recorded_cycle}
use Rattle.fr_journal.specs.Cycles.{run_cycle}
use Rattle.fr_journal.specs.Forms.{Entry}
use Rattle.fr_journal.specs.declared.entry.Entry.TheVariants.{Commit, Withdraw, Read, Pop, Fetch, Observe}
use Rattle.fr_bus.specs.States.{IsRecorded}
use Rattle.fr_schedule.specs.Descriptions.{Description}
use Rattle.fr_bus.specs.Windows.{begins_cycle, cycles_begun, with_window, this_cycle, is_static_one, opens_any}
use Rattle.fr_bus.specs.Windows.{window_at, next_dynamic, statics_of, next_in_cycle, first_of_cycle}
use Rattle.fr_slots.specs.Windows.{opens_cycle}
use Rattle.fr_bus.specs.Windows.{following}
use Rattle.fr_bus.specs.Record.{Recorded}
use Rattle.fr_core.proofs.CaseLemmas.{differ, kept, both_first}
use Rattle.fr_slots.proofs.PlaceLemmas.{same_some, cut-at, AllAfter-cut}
use Rattle.fr_slots.specs.History.{AllAfter}
use Rattle.fr_slots.specs.Parameters.{Parameters}
use Rattle.fr_slots.specs.Windows.{Opportunity, is_static, static_window}

-- ---- the times of windows

-- if this many cycles have begun, the cycle of the next window, if it is static, is its run cycle's
abbrev pub IsOnTime : ℕ → Opportunity → Type 0
IsOnTime begun w = is_static w ≡ true → w.cycle ≡ ((begun + (cond (opens_cycle w) 1 0)) - 1) % 64

abbrev pub AreOnTime : List Recorded → List Recorded → Type 0
AreOnTime before rs = AllAfter (λ b r. IsOnTime (cycles_begun b) r.window) before rs

-- the cycle of a recorded static window is its run cycle's
abbrev pub AreTimed : List Recorded → Type 0
AreTimed rs = (k : ℕ) (r : Recorded) → slice_get rs k ≡ Some r → is_static r.window ≡ true
    → r.window.cycle ≡ recorded_cycle rs k % 64

-- static windows of one run cycle have one cycle
pub same_cycle : (rs ts : List Recorded) (k j : ℕ) (r t : Recorded) → AreTimed rs → AreTimed ts
    → slice_get rs k ≡ Some r → slice_get ts j ≡ Some t
    → is_static r.window ≡ true → is_static t.window ≡ true → recorded_cycle rs k ≡ recorded_cycle ts j
    → r.window.cycle ≡ t.window.cycle
same_cycle rs ts k j r t timed others at there still static same =
    timed k r at still ∙ ap (λ n. n % 64) same ∙ sym (others j t there static)

-- the cycle of a window of the slot is its run cycle's
abbrev pub IsTimed : ℕ → List Entry → Entry → Type 0
IsTimed slot before (Commit task buffer payload) = Unit {0}
IsTimed slot before (Withdraw task buffer of) = Unit {0}
IsTimed slot before (Read task buffer from) = Unit {0}
IsTimed slot before (Pop task from) = Unit {0}
IsTimed slot before (Fetch w a b) = is_window_of slot w ≡ true → run_cycle (before ++ Fetch w a b ∷ []) % 64 ≡ w.cycle
IsTimed slot before (Observe number a b) = Unit {0}

-- ---- lists with one more item

fold_more : {X Y : Type 0} (f : Y → X → Y) (y : Y) (xs : List X) (x : X) → fold f y (xs ++ x ∷ []) ≡ f (fold f y xs) x
fold_more f y [] x = refl
fold_more f y (z ∷ xs) x = fold_more f (f y z) xs x

pub count_more : {X : Type 0} (test : X → Bool) (xs : List X) (x : X)
    → count_by test (xs ++ x ∷ []) ≡ count_by test xs + cond (test x) 1 0
count_more test xs x = omega (arith, sum_by-append (λ y. cond {A = ℕ} (test y) 1 0) xs (x ∷ []))

take_cut : {X : Type 0} (before : List X) (x : X) (after : List X)
    → take (suc (length before)) (before ++ x ∷ after) ≡ before ++ x ∷ []
take_cut [] x after = refl
take_cut (y ∷ before) x after = ap (λ (l : List _). y ∷ l) (take_cut before x after)

-- ---- the next window

one_more : (n : ℕ) → n ≡ (n + 1) - 1
one_more n = omega arith

none_more : (n : ℕ) → n - 1 ≡ (n + 0) - 1
none_more n = omega arith

-- the first window of a cycle is on time, and begins it
record IsFirst (begun : ℕ) (w : Opportunity) : Type 0 where
  on_time : IsOnTime begun w
  begins_it : opens_cycle w ≡ true

at_first : (cycles number begun : ℕ) (w : Opportunity) → first_of_cycle cycles number begun ≡ Some w → IsFirst begun w
at_first cycles number begun w e =
    let first = static_window number (begun % 64) 1 in
    subst (IsFirst begun) (same_some first w (kept (nat_lt begun cycles) (Some first) w e))
    (record { on_time = λ still. ap (λ n. n % 64) (one_more begun); begins_it = refl })

-- a later static window of a cycle is on time
at_static : (number begun statics : ℕ) (w : Opportunity) → 1 ≤ statics
    → ◌≡◌ {A = Option Opportunity} (Some (static_window number ((begun - 1) % 64) (statics + 1))) (Some w)
    → IsOnTime begun w
at_static number begun statics w some e =
    let later = static_window number ((begun - 1) % 64) (statics + 1) in
    let other : (statics + 1 == 1) ≡ false = ne_eqb (statics + 1) 1
    (λ same. let none : ⊥ = omega (arith, some, same) in none) in
    subst (IsOnTime begun) (same_some later w e)
    (λ still. ap (λ n. n % 64) (none_more begun) ∙ ap (λ (b : Bool). ((begun + cond b 1 0) - 1) % 64) (sym other))

-- a number found in a range that starts after 0 isn't 0
found_after : (test : ℕ → Bool) (start n m : ℕ) → 1 ≤ start → find test (range_with_len start n) ≡ Some m → 1 ≤ m
found_after test start zero m least e = absurd (let none : ⊥ = cc in none)
found_after test start (suc n) m least e = here (test start) (find test (range_with_len (start + 1) n))
    (found_after test (start + 1) n m (omega (arith, least))) e
  where
    here : (b : Bool) (rest : Option ℕ) → (rest ≡ Some m → 1 ≤ m) → cond b (Some start) rest ≡ Some m → 1 ≤ m
    here true rest deeper f = subst (λ n. 1 ≤ n) (same_some start m f) least
    here false rest deeper f = deeper f

-- a dynamic window isn't static
at_dynamic : (p : Parameters) (number cycle begun : ℕ) (rows : List Recorded) (w : Opportunity) (o : Option ℕ)
    → ((m : ℕ) → o ≡ Some m → 1 ≤ m)
    → option_map (window_at p number cycle rows) o ≡ Some w → IsOnTime begun w
at_dynamic p number cycle begun rows w None behind e = absurd (let none : ⊥ = cc in none)
at_dynamic p number cycle begun rows w (Some m) behind e =
    let some : 1 ≤ m = behind m refl in
    let other : (m == 0) ≡ false = ne_eqb m 0 (λ same. let none : ⊥ = omega (arith, some, same) in none) in
    subst (IsOnTime begun) (same_some (window_at p number cycle rows m) w e) (λ still. differ still other)

in_cycle : (p : Parameters) (number begun : ℕ) (done : List Recorded) (w : Opportunity) (more : Bool)
    → 1 ≤ statics_of done
    → cond more (Some (static_window number ((begun - 1) % 64) (statics_of done + 1)))
    (next_dynamic p number ((begun - 1) % 64) done) ≡ Some w → IsOnTime begun w
in_cycle p number begun done w true some e = at_static number begun (statics_of done) w some e
in_cycle p number begun done w false some e =
    at_dynamic p number ((begun - 1) % 64) begun done w (find (opens_any p done) (range_with_len 1 p.minislots))
    (λ m. found_after (opens_any p done) 1 p.minislots m (omega arith)) e

either : (begun : ℕ) (w : Opportunity) (x y : Option Opportunity) → (x ≡ Some w → IsOnTime begun w)
    → (y ≡ Some w → IsOnTime begun w) → option_or x y ≡ Some w → IsOnTime begun w
either begun w None y f g e = g e
either begun w (Some z) y f g e = f e

-- ---- over a record

-- the cycle that began last has a static window
abbrev pub HasStarted : List Recorded → Type 0
HasStarted rs = 0 < length rs → 1 ≤ statics_of (this_cycle rs)

pub following_on_time : (p : Parameters) (cycles : ℕ) (rs : List Recorded) (w : Opportunity) → HasStarted rs
    → following p cycles rs ≡ Some w → IsOnTime (cycles_begun rs) w
following_on_time p cycles [] w started e = (at_first cycles 0 0 w e).on_time
following_on_time p cycles (r ∷ rs) w started e =
    let number = length (r ∷ rs) in
    let begun = cycles_begun (r ∷ rs) in
    let done = this_cycle (r ∷ rs) in
    either begun w (next_in_cycle p number ((begun - 1) % 64) done) (first_of_cycle cycles number begun)
    (in_cycle p number begun done w (nat_lt (statics_of done) p.static_slots) (started (omega arith)))
    (λ f. (at_first cycles number begun w f).on_time) e

with_one : (cycle : List Recorded) (r : Recorded) (b : Bool) → begins_cycle r ≡ b → (b ≡ false → 1 ≤ statics_of cycle)
    → 1 ≤ statics_of (cond b (r ∷ []) (cycle ++ r ∷ []))
with_one cycle r true e some =
    let still : is_static_one r ≡ true = both_first (is_static r.window) _ e in
    let one : cond {A = ℕ} (is_static_one r) 1 0 ≡ 1 = ap (λ (b : Bool). cond {A = ℕ} b 1 0) still in
    let more : statics_of (r ∷ []) ≡ 0 + cond {A = ℕ} (is_static_one r) 1 0 = count_more is_static_one [] r in
    omega (arith, one, more)
with_one cycle r false e some = let enough = some refl in omega (arith, enough, count_more is_static_one cycle r)

keeps_started : (p : Parameters) (cycles : ℕ) (rs : List Recorded) (r : Recorded) → HasStarted rs
    → following p cycles rs ≡ Some r.window → HasStarted (rs ++ r ∷ [])
keeps_started p cycles rs r started e =
    λ long. subst (λ (l : List Recorded). 1 ≤ statics_of l) (sym (fold_more with_window [] rs r))
    (with_one (this_cycle rs) r (begins_cycle r) refl (begun rs started e))
  where
    begun : (before : List Recorded) → HasStarted before → following p cycles before ≡ Some r.window
        → begins_cycle r ≡ false → 1 ≤ statics_of (this_cycle before)
    begun [] h f other = differ (at_first cycles 0 0 r.window f).begins_it other
    begun (x ∷ before) h f other = h (omega arith)

on_time_from : (d : Description) (cycles : ℕ) (before rs : List Recorded) → HasStarted before
    → AllAfter (IsRecorded d cycles) before rs → AreOnTime before rs
unfolding AllAfter
on_time_from d cycles before [] started all = tt
on_time_from d cycles before (r ∷ rs) started all = (
  following_on_time d.params cycles before r.window started all.0.0,
  on_time_from d cycles (before ++ r ∷ []) rs (keeps_started d.params cycles before r started all.0.0) all.1,
)

pub are_on_time : (d : Description) (cycles : ℕ) (rs : List Recorded) → AllAfter (IsRecorded d cycles) [] rs
    → AreOnTime [] rs
are_on_time d cycles rs all = on_time_from d cycles [] rs (λ none. absurd
    (let nothing : ⊥ = omega (arith, none) in nothing)) all

pub are_timed : (d : Description) (cycles : ℕ) (rs : List Recorded) → AllAfter (IsRecorded d cycles) [] rs → AreTimed rs
are_timed d cycles rs all k r at still =
    let c = cut-at rs k r at in
    let on_time : IsOnTime (cycles_begun c.before) r.window =
    AllAfter-cut (λ (b : List Recorded) (x : Recorded). IsOnTime (cycles_begun b) x.window) [] c.before r c.after
    (subst (λ (l : List Recorded). AreOnTime [] l) c.cut (are_on_time d cycles rs all)) in
    let place : k + 1 ≡ suc (length c.before) = omega (arith, c.place_is) in
    let front : take (k + 1) rs ≡ c.before ++ r ∷ [] = ap (λ n. take n rs) place ∙ ap (take (suc (length c.before)))
    c.cut ∙ take_cut c.before r c.after in
    on_time still ∙ ap (λ n. (n - 1) % 64) (sym (ap cycles_begun front ∙ count_more begins_cycle c.before r))
