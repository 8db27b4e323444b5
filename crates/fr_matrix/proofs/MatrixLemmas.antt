-- A walk along the record: the cycles that began so far, and the windows of the last one; and one cell more.
use Rattle.std.proofs.Common.{◌≡◌, ℕ, ◌+◌, ◌-◌, ◌≤◌, ◌<◌, Bool, true, false, cond, List, [], ◌∷◌, ◌++◌, length}
use Rattle.std.proofs.Common.{length-append, take, get_or, Option, refl, sym, ap, ap₂, subst, ◌∙◌, arith}
use Rattle.std.specs.Io.KnownBytes.{Appends}
use Rattle.std.specs.List.{fold}
use Rattle.std.proofs.KnownBytes.{Appends-trans}
use Rattle.std.proofs.lemmas.List.{take_more}
use Rattle.std.proofs.lemmas.List.Sums.{sum_by-append}
use Rattle.fr_bus.specs.Record.{Recorded}
use Rattle.fr_bus.specs.Windows.{begins_cycle, cycles_begun, this_cycle, with_window}
use Rattle.fr_matrix.specs.Cells.{cell_after, cell_at, cells_text}
use Rattle.fr_matrix.specs.declared.grid.Grid.{Grid}
use Rattle.fr_matrix.specs.declared.view.View.{View}
use Rattle.fr_slots.specs.Parameters.{Parameters}
use Rattle.fr_slots.proofs.HistoryLemmas.{each_after-snoc}

-- the counts of a walk over the windows before
pub record Counted (before : List Recorded) (cycles windows place : ℕ) : Type 0 where
  pub cycles_are : cycles ≡ cycles_begun before
  pub windows_are : windows ≡ length (this_cycle before)
  pub few_cycles : cycles ≤ place
  pub few_windows : windows ≤ place

pub none_counted : Counted [] 0 0 0
none_counted = record { cycles_are = refl; windows_are = refl; few_cycles = omega arith; few_windows = omega arith }

fold_more : {X Y : Type 0} (f : Y → X → Y) (y : Y) (xs : List X) (x : X) → fold f y (xs ++ x ∷ []) ≡ f (fold f y xs) x
fold_more f y [] x = refl
fold_more f y (z ∷ xs) x = fold_more f (f y z) xs x

begun_more : (rs : List Recorded) (r : Recorded) (b : Bool) → begins_cycle r ≡ b
    → cycles_begun (rs ++ r ∷ []) ≡ cycles_begun rs + cond b 1 0
begun_more rs r b e =
    let one : cond {A = ℕ} (begins_cycle r) 1 0 ≡ cond {A = ℕ} b 1 0 = ap (λ (c : Bool). cond {A = ℕ} c 1 0) e in
    omega (arith, one, sum_by-append (λ y. cond {A = ℕ} (begins_cycle y) 1 0) rs (r ∷ []))

-- the first window of a cycle
pub first_counted : (rs : List Recorded) (r : Recorded) (cycles windows place more_cycles no_windows : ℕ)
    → begins_cycle r ≡ true
    → more_cycles ≡ cycles + 1 → no_windows ≡ 0 → Counted rs cycles windows place
    → Counted (rs ++ r ∷ []) more_cycles (no_windows + 1) (place + 1)
first_counted rs r cycles windows place more_cycles no_windows e more none h =
    let one : length (this_cycle (rs ++ r ∷ [])) ≡ 1 =
    ap length (fold_more with_window [] rs r ∙ ap (λ (c : Bool). cond c (r ∷ []) (this_cycle rs ++ r ∷ [])) e) in
    record {
      cycles_are = omega (arith, more, h.cycles_are, begun_more rs r true e);
      windows_are = omega (arith, none, one);
      few_cycles = omega (arith, more, h.few_cycles);
      few_windows = omega (arith, none);
    }

-- a later window of a cycle
pub later_counted : (rs : List Recorded) (r : Recorded) (cycles windows place same_cycles same_windows : ℕ)
    → begins_cycle r ≡ false
    → same_cycles ≡ cycles → same_windows ≡ windows → Counted rs cycles windows place
    → Counted (rs ++ r ∷ []) same_cycles (same_windows + 1) (place + 1)
later_counted rs r cycles windows place same_cycles same_windows e cycles_same windows_same h =
    let one_more : length (this_cycle (rs ++ r ∷ [])) ≡ length (this_cycle rs) + 1 =
    ap length (fold_more with_window [] rs r ∙ ap (λ (c : Bool). cond c (r ∷ []) (this_cycle rs ++ r ∷ [])) e)
    ∙ length-append (this_cycle rs) (r ∷ []) in
    record {
      cycles_are = omega (arith, cycles_same, h.cycles_are, begun_more rs r false e);
      windows_are = omega (arith, windows_same, h.windows_are, one_more);
      few_cycles = omega (arith, cycles_same, h.few_cycles);
      few_windows = omega (arith, windows_same, h.few_windows);
    }

-- one cell more
module _ (p : Parameters) (v : View) (g : Grid) (columns : ℕ) (recorded : List Recorded) where
  pub cell_more : (place : ℕ) (r : Recorded) (cycles windows : ℕ) (old mid new : Option (List ℕ))
      → place < length recorded → r ≡ get_or recorded place r
      → Counted (take place recorded ++ r ∷ []) cycles windows (place + 1)
      → Appends old mid (cells_text p v g columns (take place recorded))
      → Appends mid new (cell_at p v g columns (cycles - 1) (windows - 1) r)
      → Appends old new (cells_text p v g columns (take (place + 1) recorded))
  cell_more place r cycles windows old mid new lt at h before one =
      let rs = take place recorded in
      let longer : take (place + 1) recorded ≡ rs ++ r ∷ [] =
      take_more recorded place r lt ∙ ap (λ (x : Recorded). rs ++ x ∷ []) (sym at) in
      let cell : cell_at p v g columns (cycles - 1) (windows - 1) r ≡ cell_after p v g columns rs r =
      ap₂ (λ (c w : ℕ). cell_at p v g columns (c - 1) (w - 1) r) h.cycles_are h.windows_are in
      let more : cells_text p v g columns (take (place + 1) recorded)
      ≡ cells_text p v g columns rs ++ cell_at p v g columns (cycles - 1) (windows - 1) r =
      ap (cells_text p v g columns) longer ∙ each_after-snoc (cell_after p v g columns) rs r
      ∙ ap (λ (t : List ℕ). cells_text p v g columns rs ++ t) (sym cell) in
      subst (λ (t : List ℕ). Appends old new t) (sym more) (Appends-trans old mid new (cells_text p v g columns rs)
      (cell_at p v g columns (cycles - 1) (windows - 1) r) before one)

pub counted_longer : (recorded : List Recorded) (place : ℕ) (r : Recorded) (cycles windows : ℕ)
    → place < length recorded → r ≡ get_or recorded place r
    → Counted (take place recorded ++ r ∷ []) cycles windows (place + 1)
    → Counted (take (place + 1) recorded) cycles windows (place + 1)
counted_longer recorded place r cycles windows lt at h =
    let rs = take place recorded in
    let longer : take (place + 1) recorded ≡ rs ++ r ∷ [] =
    take_more recorded place r lt ∙ ap (λ (x : Recorded). rs ++ x ∷ []) (sym at) in
    subst (λ (xs : List Recorded). Counted xs cycles windows (place + 1)) (sym longer) h
