-- A walk along the record measures it: the longest cycle, and the columns in which something was sent.
use Rattle.std.proofs.Common.{◌≡◌, ℕ, ◌+◌, ◌-◌, ◌≤◌, ◌<◌, Bool, true, false, cond, ◌&&◌, ◌||◌, leb, ltb, List, []}
use Rattle.std.proofs.Common.{◌∷◌, ◌++◌, length, map, set, take, get_or, max, refl, sym, ap, ap₂, subst, ◌∙◌, arith}
use Rattle.std.proofs.Common.{eqb, inl, inr, replicate, ◌≢◌, ◌⊎◌}
use Rattle.std.specs.List.{list_any, range_with_len}
use Rattle.std.proofs.lemmas.Bool.{cases_eq, eq-eqb, leb-false, leb-true, ltb-false, ltb-true, ne_eqb, or_right}
use Rattle.std.proofs.lemmas.List.{ext_get_or, get_or-replicate, get_or-set_other, get_or-set_same, length-set}
use Rattle.std.proofs.lemmas.List.{take_more}
use Rattle.std.proofs.lemmas.List.Folds.{list_any-append}
use Rattle.std.proofs.lemmas.List.FromFn.{get_or-map-range_with_len, length-map-range_with_len}
use Rattle.fr_bus.specs.Record.{Recorded}
use Rattle.fr_bus.specs.Windows.{cycles_begun, this_cycle}
use Rattle.fr_matrix.specs.Extents.{with_mark}
use Rattle.fr_matrix.specs.Places.{busy_column, column_of, cycle_of, drawn_count, greatest, has_row, has_sent, is_busy}
use Rattle.fr_matrix.specs.Places.{most_drawn}
use Rattle.fr_matrix.specs.declared.view.View.{View}
use Rattle.fr_matrix.proofs.MatrixLemmas.{Counted, none_counted}
use Rattle.fr_slots.specs.History.{each_after}
use Rattle.fr_slots.proofs.HistoryLemmas.{each_after-snoc}

-- ---- the longest cycle

greatest-append : (xs ys : List ℕ) → greatest (xs ++ ys) ≡ max (greatest xs) (greatest ys)
unfolding greatest
greatest-append [] ys = omega arith
greatest-append (x ∷ xs) ys = omega (arith, greatest-append xs ys)

greatest-one : (n : ℕ) → greatest (n ∷ []) ≡ n
unfolding greatest
greatest-one n = omega arith

greatest-none : greatest [] ≡ 0
unfolding greatest
greatest-none = refl

drawn_by : (drawn windows : ℕ) (counts : List ℕ) (b : Bool) → drawn ≡ greatest counts
    → greatest (counts ++ cond b (windows ∷ []) []) ≡ cond b (max drawn windows) drawn
drawn_by drawn windows counts true is =
    greatest-append counts (windows ∷ []) ∙ ap₂ max (sym is) (greatest-one windows)
drawn_by drawn windows counts false is =
    let none : greatest (counts ++ []) ≡ max (greatest counts) 0 =
    greatest-append counts [] ∙ ap (λ (n : ℕ). max (greatest counts) n) greatest-none in
    omega (arith, none, is)

drawn_more : (v : View) (rs : List Recorded) (r : Recorded) (cycles windows drawn : ℕ)
    → cycles ≡ cycles_begun (rs ++ r ∷ [])
    → windows ≡ length (this_cycle (rs ++ r ∷ [])) → 1 ≤ windows → drawn ≡ most_drawn v rs
    → most_drawn v (rs ++ r ∷ []) ≡ cond (has_row v (cycles - 1)) (max drawn windows) drawn
drawn_more v rs r cycles windows drawn begun are some is =
    let counts = each_after (drawn_count v) [] rs in
    let one : column_of rs r + 1 ≡ windows = omega arith in
    ap greatest (each_after-snoc (drawn_count v) rs r)
    ∙ ap (λ (n : ℕ). greatest (counts ++ cond (has_row v (cycle_of rs r)) (n ∷ []) [])) one
    ∙ ap (λ (n : ℕ). greatest (counts ++ cond (has_row v (n - 1)) (windows ∷ []) [])) (sym begun)
    ∙ drawn_by drawn windows counts (has_row v (cycles - 1)) is

-- ---- the busy columns

or_false : (b : Bool) → (b || false) ≡ b
or_false true = refl
or_false false = refl

-- the columns with one more
abbrev column_named : Bool → ℕ → ℕ → Bool
column_named shows column c = list_any (λ n. eqb n c) (cond shows (column ∷ []) [])

busy_more : (v : View) (rs : List Recorded) (r : Recorded) (c : ℕ)
    → is_busy v (rs ++ r ∷ []) c ≡ (is_busy v rs c || list_any (λ n. eqb n c) (busy_column v rs r))
busy_more v rs r c =
    ap (list_any (λ n. eqb n c)) (each_after-snoc (busy_column v) rs r)
    ∙ list_any-append (λ n. eqb n c) (each_after (busy_column v) [] rs) (busy_column v rs r)

module _ (f g : ℕ → Bool) (first n column : ℕ) where
  -- no place is marked
  same_marks : ((c : ℕ) → first ≤ c → c < first + n → g c ≡ f c)
      → map f (range_with_len first n) ≡ map g (range_with_len first n)
  same_marks is =
      ext_get_or false (map f (range_with_len first n)) (map g (range_with_len first n))
      (length-map-range_with_len f first n ∙ sym (length-map-range_with_len g first n))
      (λ k lt.
      let few : k < n = omega (arith, lt, length-map-range_with_len f first n) in
      get_or-map-range_with_len f first n k (first + k) false few refl
      ∙ sym (is (first + k) (omega arith) (omega (arith, few)))
      ∙ sym (get_or-map-range_with_len g first n k (first + k) false few refl))

  -- the place of the column is marked
  one_mark : first ≤ column → column - first < n → g column ≡ true
      → ((c : ℕ) → c ≢ column → g c ≡ f c)
      → set (map f (range_with_len first n)) (column - first) true ≡ map g (range_with_len first n)
  one_mark from lt here others =
      let fs = map f (range_with_len first n) in
      let long : length fs ≡ n = length-map-range_with_len f first n in
      ext_get_or false (set fs (column - first) true) (map g (range_with_len first n))
      (length-set fs (column - first) true ∙ long ∙ sym (length-map-range_with_len g first n))
      (λ k some. at k (omega (arith, some, length-set fs (column - first) true, long)) (cases_eq k (column - first)))
    where
      at : (k : ℕ) → k < n → (k ≡ column - first) ⊎ (k ≢ column - first)
          → get_or (set (map f (range_with_len first n)) (column - first) true) k false
          ≡ get_or (map g (range_with_len first n)) k false
      at k few (inl is) =
          let fs = map f (range_with_len first n) in
          let there : first + k ≡ column = omega (arith, is, from) in
          ap (λ (j : ℕ). get_or (set fs (column - first) true) j false) is
          ∙ get_or-set_same fs (column - first) true false
          (omega (arith, lt, length-map-range_with_len f first n))
          ∙ sym here ∙ ap g (sym there)
          ∙ sym (get_or-map-range_with_len g first n k (first + k) false few refl)
      at k few (inr not) =
          let fs = map f (range_with_len first n) in
          get_or-set_other fs (column - first) k true false not
          ∙ get_or-map-range_with_len f first n k (first + k) false few refl
          ∙ sym (others (first + k) (λ same. not (omega (arith, same))))
          ∙ sym (get_or-map-range_with_len g first n k (first + k) false few refl)

-- the column of a window is marked, if it has a place
marked_by : (f g : ℕ → Bool) (first n column : ℕ) (shows : Bool)
    → ((c : ℕ) → g c ≡ (f c || column_named shows column c))
    → cond (shows && (leb first column && ltb (column - first) n))
    (set (map f (range_with_len first n)) (column - first) true) (map f (range_with_len first n))
    ≡ map g (range_with_len first n)
marked_by f g first n column false is =
    same_marks f g first n column (λ c from few. is c ∙ or_false (f c))
marked_by f g first n column true is = by (leb first column) (ltb (column - first) n) refl refl
  where
    other : (c : ℕ) → (c ≡ column → ⊥) → g c ≡ f c
    other c apart =
        is c ∙ ap (λ (b : Bool). f c || (b || false)) (ne_eqb column c (λ same. apart (sym same))) ∙ or_false (f c)

    by : (from few : Bool) → leb first column ≡ from → ltb (column - first) n ≡ few
        → cond (from && few)
        (set (map f (range_with_len first n)) (column - first) true) (map f (range_with_len first n))
        ≡ map g (range_with_len first n)
    by true true from few =
        one_mark f g first n column (leb-true first column from) (ltb-true (column - first) n few)
        (is column ∙ or_right (f column) (eqb column column || false)
        (ap (λ (b : Bool). b || false) (eq-eqb column column refl))) other
    by true false from few =
        let past : n ≤ column - first = ltb-false (column - first) n few in
        same_marks f g first n column (λ c low high. other c (λ same. omega (arith, same, past, low, high)))
    by false few from lt =
        let past : column < first = leb-false first column from in
        same_marks f g first n column (λ c low high. other c (λ same. omega (arith, same, past, low, high)))

abbrev pub busy_in : View → List Recorded → List Bool
busy_in v rs = map (is_busy v rs) (range_with_len v.from_window 377)

marked_more : (v : View) (rs : List Recorded) (r : Recorded) (cycles windows : ℕ) (busy : List Bool)
    → cycles ≡ cycles_begun (rs ++ r ∷ []) → windows ≡ length (this_cycle (rs ++ r ∷ []))
    → busy ≡ busy_in v rs
    → with_mark v (cycles - 1) (windows - 1) r busy ≡ busy_in v (rs ++ r ∷ [])
marked_more v rs r cycles windows busy begun are is =
    ap₂ (λ (c w : ℕ). with_mark v (c - 1) (w - 1) r busy) begun are
    ∙ ap (λ (marks : List Bool). with_mark v (cycle_of rs r) (column_of rs r) r marks) is
    ∙ marked_by (is_busy v rs) (is_busy v (rs ++ r ∷ [])) v.from_window 377 (column_of rs r)
    (has_row v (cycle_of rs r) && has_sent v.channel r.sent) (busy_more v rs r)

-- ---- the walk

-- the counts of a walk, the most windows of a cycle that has a row, and the busy columns
pub record Measured (v : View) (before : List Recorded) (cycles windows most : ℕ) (busy : List Bool) (place : ℕ)
    : Type 0 where
  pub counted : Counted before cycles windows place
  pub most_is : most ≡ most_drawn v before
  pub busy_is : busy ≡ busy_in v before

pub none_measured : (v : View) (busy : List Bool) → busy ≡ replicate 377 false → Measured v [] 0 0 0 busy 0
unfolding greatest Rattle.fr_slots.specs.History.each_after
none_measured v busy is = record {
  counted = none_counted;
  most_is = refl;
  busy_is =
      let long : length busy ≡ 377 = ap length is in
      ext_get_or false busy (busy_in v [])
      (long ∙ sym (length-map-range_with_len (is_busy v []) v.from_window 377))
      (λ k lt.
      let few : k < 377 = omega (arith, lt, long) in
      ap (λ (marks : List Bool). get_or marks k false) is
      ∙ get_or-replicate 377 k false false few
      ∙ sym (get_or-map-range_with_len (is_busy v []) v.from_window 377 k (v.from_window + k) false few refl));
}

module _ (v : View) (recorded : List Recorded) where
  pub measured_more : (place : ℕ) (r : Recorded) (cycles windows most wider : ℕ) (busy marked : List Bool)
      → place < length recorded → r ≡ get_or recorded place r
      → Counted (take place recorded ++ r ∷ []) cycles windows (place + 1) → 1 ≤ windows
      → most ≡ most_drawn v (take place recorded) → busy ≡ busy_in v (take place recorded)
      → wider ≡ cond (has_row v (cycles - 1)) (max most windows) most
      → marked ≡ with_mark v (cycles - 1) (windows - 1) r busy
      → Measured v (take (place + 1) recorded) cycles windows wider marked (place + 1)
  measured_more place r cycles windows most wider busy marked lt at h some most_is busy_is wider_is marked_is =
      let rs = take place recorded in
      let longer : take (place + 1) recorded ≡ rs ++ r ∷ [] =
      take_more recorded place r lt ∙ ap (λ (x : Recorded). rs ++ x ∷ []) (sym at) in
      let now : Measured v (rs ++ r ∷ []) cycles windows wider marked (place + 1) = record {
        counted = h;
        most_is = wider_is
            ∙ sym (drawn_more v rs r cycles windows most h.cycles_are h.windows_are some most_is);
        busy_is = marked_is ∙ marked_more v rs r cycles windows busy h.cycles_are h.windows_are busy_is;
      } in
      subst (λ (xs : List Recorded). Measured v xs cycles windows wider marked (place + 1)) (sym longer) now
