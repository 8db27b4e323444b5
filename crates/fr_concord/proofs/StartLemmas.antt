-- Pictures, captures and latencies count from the starts of the layout.
use Rattle.std.proofs.Common.{◌≡◌, ℕ, zero, suc, ◌+◌, ◌-◌, ◌*◌, ◌<◌, ◌≤◌, Bool, cond, List, [], ◌∷◌, ◌++◌, append_assoc}
use Rattle.std.proofs.Common.{Option, Some, refl, sym, ap, subst, ◌∙◌, arith}
use Rattle.std.proofs.Math.Nat.{suc-mul}
use Rattle.std.proofs.lemmas.Bool.{le-leb, lt-ltb}
use Rattle.std.specs.List.{range_with_len}
use Rattle.std.specs.Prelude.{Contains, unwrap_or}
use Rattle.fr_capture.specs.Moments.{place_of, start_of as start_in_capture}
use Rattle.fr_concord.specs.Starts.{ArePicturedSlots, IsSlotWindow, IsMinislotWindow, AreCapturedSlots, minislot_start}
use Rattle.fr_concord.specs.Starts.{AreCapturedMinislots, AreStartsOfRun, AreMinislotsOfRun}
use Rattle.fr_guarantees.specs.Delays.{run_cycle}
use Rattle.fr_picture.specs.Owners.{start_of as start_in_picture, end_of as end_in_picture}
use Rattle.fr_slots.specs.Parameters.{Parameters}
use Rattle.fr_slots.specs.Windows.{Opportunity}
use Rattle.fr_timing.specs.declared.place.Place.{Place}
use Rattle.fr_timing.specs.declared.place.Place.TheVariants.{Static, Minislot}
use Rattle.fr_timing.specs.Division.{start_in_row, start_at}
use Rattle.fr_timing.specs.Layout.{Part, Stretch, Interval, numbered, laid_from, layout, static_slot, minislot}
use Rattle.fr_timing.specs.Layout.{symbol_window, idle_time}
use Rattle.fr_timing.specs.Segments.{dynamic_start}

-- ---- the layout

abbrev laid : Part → ℕ → ℕ → Interval
laid part start end = record { part = part; start = start; end = end }

there : (x y : Interval) (xs : List Interval) → Contains xs x → Contains (y ∷ xs) x
there x y xs (k, less, same) = (suc k, omega arith, same)

moved_on : (start part k : ℕ) → (start + part) + k * part ≡ start + suc k * part
moved_on start part k = let more = suc-mul k part in omega arith

-- the part of this place in a row of parts of one length
row_has : (kind : ℕ → Part) (n first k start part : ℕ) (rest : List Stretch) → k < n
    → Contains (laid_from start (numbered kind part (range_with_len first n) ++ rest))
    (laid (kind (first + k)) (start + k * part) (start + k * part + part))
unfolding laid_from
row_has kind zero first k start part rest less = absurd (omega arith)
row_has kind (suc n) first zero start part rest less =
    let same : first + 0 ≡ first = omega arith in
    let from : start + 0 * part ≡ start = omega arith in
    (0, omega arith, rw (same, from) refl)
row_has kind (suc n) first (suc k) start part rest less =
    let next : first + 1 + k ≡ first + suc k = omega arith in
    let has = row_has kind n (first + 1) k (start + part) part rest (omega arith) in
    there (laid (kind (first + suc k)) (start + suc k * part) (start + suc k * part + part))
    (laid (kind first) start (start + part))
    (laid_from (start + part) (numbered kind part (range_with_len (first + 1) n) ++ rest))
    (rw (← next, ← moved_on start part k) has)

-- a row comes after the rows before it
after_row : (kind : ℕ → Part) (n first start part : ℕ) (rest : List Stretch) (x : Interval)
    → Contains (laid_from (start + n * part) rest) x
    → Contains (laid_from start (numbered kind part (range_with_len first n) ++ rest)) x
unfolding laid_from
after_row kind zero first start part rest x has =
    let from : start + 0 * part ≡ start = omega arith in rw from at has
after_row kind (suc n) first start part rest x has =
    there x (laid (kind first) start (start + part))
    (laid_from (start + part) (numbered kind part (range_with_len (first + 1) n) ++ rest))
    (after_row kind n (first + 1) (start + part) part rest x (rw (moved_on start part n) has))

module _ (p : Parameters) where
  abbrev slots : List Stretch
  slots = numbered static_slot p.static_mt (range_with_len 1 p.static_slots)

  abbrev minislots : List Stretch
  minislots = numbered minislot p.minislot_mt (range_with_len 1 p.minislots)

  abbrev ends : List Stretch
  ends = record { part = symbol_window; length = p.symbol_mt } ∷ record { part = idle_time; length = p.nit_mt } ∷ []

  of_layout : (x : Interval) → Contains (laid_from 0 (slots ++ (minislots ++ ends))) x → Contains (layout p) x
  unfolding layout
  of_layout x has =
      subst (λ (l : List Stretch). Contains (laid_from 0 l) x) (sym (append_assoc slots minislots ends)) has

  slot_in : (slot : ℕ) → 1 ≤ slot → slot ≤ p.static_slots
      → Contains (layout p) (laid (static_slot slot) (start_in_picture p slot) (end_in_picture p slot))
  slot_in slot from most =
      let k = slot - 1 in
      let number : 1 + k ≡ slot = omega arith in
      let start : 0 + k * p.static_mt ≡ k * p.static_mt = omega arith in
      let end : 0 + k * p.static_mt + p.static_mt ≡ slot * p.static_mt =
      ap (λ (n : ℕ). n + p.static_mt) start ∙ sym (suc-mul k p.static_mt)
      ∙ ap (λ (n : ℕ). n * p.static_mt) (let next : suc k ≡ slot = omega arith in next) in
      let has = row_has static_slot p.static_slots 1 k 0 p.static_mt (minislots ++ ends) (omega arith) in
      let same : laid (static_slot (1 + k)) (0 + k * p.static_mt) (0 + k * p.static_mt + p.static_mt)
      ≡ laid (static_slot slot) (start_in_picture p slot) (end_in_picture p slot) =
      ap (λ (n : ℕ). laid (static_slot n) (0 + k * p.static_mt) (0 + k * p.static_mt + p.static_mt)) number
      ∙ ap (λ (n : ℕ). laid (static_slot slot) n (0 + k * p.static_mt + p.static_mt)) start
      ∙ ap (λ (n : ℕ). laid (static_slot slot) (k * p.static_mt) n) end in
      of_layout (laid (static_slot slot) (start_in_picture p slot) (end_in_picture p slot))
      (subst (λ (x : Interval). Contains (laid_from 0 (slots ++ (minislots ++ ends))) x) same has)

  minislot_in : (number : ℕ) → 1 ≤ number → number ≤ p.minislots
      → Contains (layout p)
      (laid (minislot number) (minislot_start p number) (minislot_start p number + p.minislot_mt))
  minislot_in number from most =
      let k = number - 1 in
      let count : 1 + k ≡ number = omega arith in
      let first : 0 + p.static_slots * p.static_mt ≡ dynamic_start p = omega arith in
      let has = row_has minislot p.minislots 1 k (dynamic_start p) p.minislot_mt ends (omega arith) in
      let here = subst (λ (n : ℕ). Contains (laid_from (dynamic_start p) (minislots ++ ends))
      (laid (minislot n) (minislot_start p number) (minislot_start p number + p.minislot_mt))) count has in
      let x = laid (minislot number) (minislot_start p number) (minislot_start p number + p.minislot_mt) in
      of_layout x (after_row static_slot p.static_slots 1 0 p.static_mt (minislots ++ ends) x
      (subst (λ (n : ℕ). Contains (laid_from n (minislots ++ ends)) x) (sym first) here))

  -- ---- captures

  in_row : (first count part k : ℕ) → 1 ≤ k → k ≤ count → 0 < part
      → start_in_row first count part k 0 ≡ Some (first + (k - 1) * part + 0)
  in_row first count part k from most some = rw (le-leb 1 k from, le-leb k count most, lt-ltb 0 part some) refl

  slot_place : (w : Opportunity) (slot : ℕ) → IsSlotWindow p w slot → place_of w ≡ Static slot 0
  slot_place w slot is =
      ap (λ (b : Bool). cond b (Static (unwrap_or w.a 1) 0) (Minislot w.minislot 0)) is.static_is
      ∙ ap (λ (o : Option ℕ). Static (unwrap_or o 1) 0) is.slot_is

  minislot_place : (w : Opportunity) → IsMinislotWindow p w → place_of w ≡ Minislot w.minislot 0
  minislot_place w is = ap (λ (b : Bool). cond b (Static (unwrap_or w.a 1) 0) (Minislot w.minislot 0)) is.dynamic_is

  slot_starts : (w : Opportunity) (slot : ℕ) → IsSlotWindow p w slot → start_in_capture p w ≡ start_in_picture p slot
  unfolding start_at
  slot_starts w slot is =
      let none : 0 + (slot - 1) * p.static_mt + 0 ≡ (slot - 1) * p.static_mt = omega arith in
      ap (λ (x : Place). unwrap_or (start_at p x) 0) (slot_place w slot is)
      ∙ ap (λ (o : Option ℕ). unwrap_or o 0)
      (in_row 0 p.static_slots p.static_mt slot is.from_one is.at_most is.some_length)
      ∙ none

  minislot_starts : (w : Opportunity) → IsMinislotWindow p w → start_in_capture p w ≡ minislot_start p w.minislot
  unfolding start_at
  minislot_starts w is =
      let none : dynamic_start p + (w.minislot - 1) * p.minislot_mt + 0 ≡ minislot_start p w.minislot = omega arith in
      ap (λ (x : Place). unwrap_or (start_at p x) 0) (minislot_place w is)
      ∙ ap (λ (o : Option ℕ). unwrap_or o 0)
      (in_row (dynamic_start p) p.minislots p.minislot_mt w.minislot is.from_one is.at_most is.some_length)
      ∙ none

-- ---- the laws

pub pictured_slots : ArePicturedSlots
pictured_slots p slot from most = slot_in p slot from most

pub captured_slots : AreCapturedSlots
captured_slots p w slot is =
    record { of_layout = slot_in p slot is.from_one is.at_most; start_is = sym (slot_starts p w slot is) }

pub captured_minislots : AreCapturedMinislots
captured_minislots p w is =
    record { of_layout = minislot_in p w.minislot is.from_one is.at_most; start_is = sym (minislot_starts p w is) }

pub starts_of_run : AreStartsOfRun
starts_of_run world w slot is =
    let p = world.bus.cluster.params in
    let before = run_cycle world w * p.cycle_mt in
    ap (λ (b : Bool). before + cond b (start_in_picture p slot) (minislot_start p w.minislot)) is.static_is
    ∙ ap (λ (n : ℕ). before + n) (sym (slot_starts p w slot is))

pub minislots_of_run : AreMinislotsOfRun
minislots_of_run world w slot is =
    let p = world.bus.cluster.params in
    let before = run_cycle world w * p.cycle_mt in
    ap (λ (b : Bool). before + cond b (start_in_picture p slot) (minislot_start p w.minislot)) is.dynamic_is
    ∙ ap (λ (n : ℕ). before + n) (sym (minislot_starts p w is))
