-- The window that follows a record: its number, and that it is one of the cluster's.
use Rattle.std.proofs.Common.{◌≡◌, ℕ, ◌+◌, ◌%◌, ◌≤◌, ◌==◌, Bool, true, false, not, cond, ◌&&◌, ◌||◌, List, [], ◌∷◌}
use Rattle.std.proofs.Common.{length, Option, Some, None, refl, sym, ap, subst, ◌∙◌, arith, option_map, is_some}
use Rattle.std.specs.Prelude.{nat_lt, nat_le}
use Rattle.std.specs.List.{find, range_with_len}
use Rattle.std.specs.Option.{option_or}
use Rattle.std.proofs.lemmas.Bool.{eqb-true, le-leb, leb-true, lt-leb, ltb-true, ne_eqb}
use Rattle.fr_bus.proofs.NextLemmas.{some_if}
use Rattle.fr_bus.specs.Record.{Recorded}
use Rattle.fr_bus.specs.Windows.{cycles_begun, this_cycle, counts_on, opened_on, opens_any, window_at, next_dynamic}
use Rattle.fr_bus.specs.Windows.{statics_of, next_in_cycle, first_of_cycle, following}
use Rattle.fr_core.proofs.CaseLemmas.{both, both_first, both_rest}
use Rattle.fr_guarantees.specs.Guarantees.{cycle_of}
use Rattle.fr_minislot.specs.DynamicRows.{first_minislot, slot_after, has_row_after, opened_after, last_slot}
use Rattle.fr_slots.proofs.PlaceLemmas.{same_some}
use Rattle.fr_slots.specs.declared.channel.Channel.TheVariants.{A, B}
use Rattle.fr_slots.specs.Parameters.{Parameters, is_static_slot}
use Rattle.fr_slots.specs.Windows.{Opportunity, is_static, static_window, static_slot_fits, dynamic_slot_fits}
use Rattle.fr_slots.specs.Windows.{window_fits}

-- the window has this number, and the cluster has it
pub record IsFitting (p : Parameters) (number : ℕ) (w : Opportunity) : Type 0 where
  pub number_is : w.number ≡ number
  pub fits : window_fits p w ≡ true

static_fitting : (p : Parameters) (number cycle slot : ℕ) (w : Opportunity) → slot ≤ p.static_slots
    → ◌≡◌ {A = Option Opportunity} (Some (static_window number cycle slot)) (Some w) → IsFitting p number w
static_fitting p number cycle slot w few e =
    let fits = le-leb slot p.static_slots few in
    subst (IsFitting p number) (same_some (static_window number cycle slot) w e) (record {
      number_is = refl;
      fits = both (is_static_slot p slot) (is_static_slot p slot) fits fits;
    })

pub found : (test : ℕ → Bool) (xs : List ℕ) (x : ℕ) → find test xs ≡ Some x → test x ≡ true
found test [] x e = absurd (let none : ⊥ = cc in none)
found test (y ∷ ys) x e = by (test y) refl e (found test ys x)
  where
    by : (b : Bool) → test y ≡ b → cond b (Some y) (find test ys) ≡ Some x
        → (find test ys ≡ Some x → test x ≡ true) → test x ≡ true
    by true is f rest = ap test (sym (same_some y x f)) ∙ is
    by false is f rest = rest f

-- a minislot at which a channel opens a slot
opened_within : (p : Parameters) (counts : List ℕ) (minislot : ℕ) → is_some (opened_after p counts minislot) ≡ true
    → (1 ≤ minislot) × (minislot ≤ p.minislots)
opened_within p counts minislot e =
    let opens = sym (some_if (has_row_after p counts && first_minislot p counts == minislot) (slot_after p counts))
    ∙ e in
    let begins = eqb-true (first_minislot p counts) minislot (both_rest (has_row_after p counts)
    (first_minislot p counts == minislot) opens) in
    let low : 1 ≤ first_minislot p counts = omega arith in
    let high = leb-true (first_minislot p counts) p.minislots (both_first (nat_le (first_minislot p counts)
    p.minislots) (nat_le (slot_after p counts) last_slot)
    (both_first (has_row_after p counts) (first_minislot p counts == minislot) opens)) in
    (omega (arith, begins, low), omega (arith, begins, high))

pub either_within : (p : Parameters) (rows : List Recorded) (minislot : ℕ) → opens_any p rows minislot ≡ true
    → (1 ≤ minislot) × (minislot ≤ p.minislots)
either_within p rows minislot e = by (is_some (opened_on p A rows minislot)) refl e
  where
    by : (b : Bool) → is_some (opened_on p A rows minislot) ≡ b → (b || is_some (opened_on p B rows minislot)) ≡ true
        → (1 ≤ minislot) × (minislot ≤ p.minislots)
    by true is f = opened_within p (counts_on A rows) minislot is
    by false is f = opened_within p (counts_on B rows) minislot f

dynamic_slot : (p : Parameters) (counts : List ℕ) (minislot : ℕ)
    → dynamic_slot_fits p (opened_after p counts minislot) ≡ true
dynamic_slot p counts minislot = by (has_row_after p counts && first_minislot p counts == minislot)
  where
    by : (b : Bool) → dynamic_slot_fits p (cond b (Some (slot_after p counts)) None) ≡ true
    by true = ap not (lt-leb (slot_after p counts) p.static_slots (omega arith))
    by false = refl

dynamic_fits : (p : Parameters) (number cycle : ℕ) (rows : List Recorded) (minislot : ℕ) → 1 ≤ minislot
    → minislot ≤ p.minislots → window_fits p (window_at p number cycle rows minislot) ≡ true
dynamic_fits p number cycle rows minislot low high =
    let v = window_at p number cycle rows minislot in
    let dynamic : is_static v ≡ false = ne_eqb minislot 0 (λ e. let none : ⊥ = omega (arith, low, e) in none) in
    ap (λ (b : Bool). cond b (static_slot_fits p v.a && static_slot_fits p v.b)
    (nat_le minislot p.minislots && dynamic_slot_fits p v.a && dynamic_slot_fits p v.b)) dynamic
    ∙ (λ i. le-leb minislot p.minislots high i && dynamic_slot p (counts_on A rows) minislot i
    && dynamic_slot p (counts_on B rows) minislot i)

dynamic_fitting : (p : Parameters) (number cycle : ℕ) (rows : List Recorded) (w : Opportunity) (o : Option ℕ)
    → find (opens_any p rows) (range_with_len 1 p.minislots) ≡ o
    → option_map (window_at p number cycle rows) o ≡ Some w → IsFitting p number w
dynamic_fitting p number cycle rows w None is e = absurd (let none : ⊥ = cc in none)
dynamic_fitting p number cycle rows w (Some minislot) is e =
    let within = either_within p rows minislot (found (opens_any p rows) (range_with_len 1 p.minislots) minislot is) in
    subst (IsFitting p number) (same_some (window_at p number cycle rows minislot) w e) (record {
      number_is = refl;
      fits = dynamic_fits p number cycle rows minislot within.0 within.1;
    })

in_cycle : (p : Parameters) (number cycle : ℕ) (rows : List Recorded) (w : Opportunity)
    → next_in_cycle p number cycle rows ≡ Some w → IsFitting p number w
in_cycle p number cycle rows w e = by (nat_lt (statics_of rows) p.static_slots) refl e
  where
    by : (b : Bool) → nat_lt (statics_of rows) p.static_slots ≡ b
        → cond b (Some (static_window number cycle (statics_of rows + 1))) (next_dynamic p number cycle rows) ≡ Some w
        → IsFitting p number w
    by true is f =
        let few = ltb-true (statics_of rows) p.static_slots is in
        static_fitting p number cycle (statics_of rows + 1) w (omega (arith, few)) f
    by false is f =
        dynamic_fitting p number cycle rows w (find (opens_any p rows) (range_with_len 1 p.minislots)) refl f

at_first : (p : Parameters) (cycles number begun : ℕ) (w : Opportunity) → 1 ≤ p.static_slots
    → first_of_cycle cycles number begun ≡ Some w → IsFitting p number w
at_first p cycles number begun w some e = by (nat_lt begun cycles) e
  where
    by : (b : Bool) → cond b (Some (static_window number (begun % 64) 1)) None ≡ Some w → IsFitting p number w
    by true f = static_fitting p number (begun % 64) 1 w some f
    by false f = absurd (let none : ⊥ = cc in none)

pub following_fits : (p : Parameters) (cycles : ℕ) (rs : List Recorded) (w : Opportunity) → 1 ≤ p.static_slots
    → following p cycles rs ≡ Some w → IsFitting p (length rs) w
following_fits p cycles [] w some e = at_first p cycles 0 0 w some e
following_fits p cycles (r ∷ rs) w some e =
    by (next_in_cycle p (length (r ∷ rs)) (cycle_of (r ∷ rs)) (this_cycle (r ∷ rs))) refl e
  where
    by : (o : Option Opportunity)
        → next_in_cycle p (length (r ∷ rs)) (cycle_of (r ∷ rs)) (this_cycle (r ∷ rs)) ≡ o
        → option_or o (first_of_cycle cycles (length (r ∷ rs)) (cycles_begun (r ∷ rs))) ≡ Some w
        → IsFitting p (length (r ∷ rs)) w
    by None is f = at_first p cycles (length (r ∷ rs)) (cycles_begun (r ∷ rs)) w some f
    by (Some v) is f = in_cycle p (length (r ∷ rs)) (cycle_of (r ∷ rs)) (this_cycle (r ∷ rs)) w (is ∙ f)
