-- The next dynamic window is the next row of each channel that has a slot in it.
use Rattle.std.proofs.Common.{◌≡◌, ℕ, ◌+◌, ◌%◌, ◌==◌, Bool, true, false, cond, ◌&&◌, List, [], ◌∷◌, length, Option}
use Rattle.std.proofs.Common.{Some, None, refl, sym, ap, ◌∙◌, option_map}
use Rattle.std.specs.Prelude.{nat_lt}
use Rattle.std.specs.List.{find, range_with_len}
use Rattle.std.specs.Option.{option_or}
use Rattle.std.proofs.lemmas.Bool.{eqb-true}
use Rattle.fr_bus.specs.Record.{Recorded}
use Rattle.fr_bus.specs.Windows.{cycles_begun, this_cycle, counts_on, opened_on, opens_any, window_at, next_dynamic}
use Rattle.fr_bus.specs.Windows.{statics_of, next_in_cycle, first_of_cycle, following}
use Rattle.fr_core.proofs.CaseLemmas.{differ}
use Rattle.fr_guarantees.specs.Guarantees.{cycle_of}
use Rattle.fr_minislot.specs.DynamicRows.{first_minislot, slot_after, has_row_after}
use Rattle.fr_slots.proofs.PlaceLemmas.{same_some}
use Rattle.fr_slots.specs.declared.channel.Channel.{Channel}
use Rattle.fr_slots.specs.declared.channel.Channel.TheVariants.{A, B}
use Rattle.fr_slots.specs.Parameters.{Parameters}
use Rattle.fr_slots.specs.Windows.{Opportunity, slot_of, is_static, static_window}

-- ---- the window

-- a static window isn't dynamic
not_static : {X : Type 0} (number cycle slot : ℕ) (w : Opportunity)
    → ◌≡◌ {A = Option Opportunity} (Some (static_window number cycle slot)) (Some w) → is_static w ≡ false → X
not_static number cycle slot w e dynamic =
    let still : is_static w ≡ true =
    ap (λ (o : Opportunity). is_static o) (sym (same_some (static_window number cycle slot) w e)) in
    differ still dynamic

not_first : {X : Type 0} (cycles number begun : ℕ) (w : Opportunity) → first_of_cycle cycles number begun ≡ Some w
    → is_static w ≡ false → X
not_first cycles number begun w e dynamic = by (nat_lt begun cycles) e
  where
    by : {X : Type 0} (b : Bool) → cond b (Some (static_window number (begun % 64) 1)) None ≡ Some w → X
    by true f = not_static number (begun % 64) 1 w f dynamic
    by false f = absurd (let none : ⊥ = cc in none)

at_minislot : (p : Parameters) (number cycle : ℕ) (rows : List Recorded) (o : Option ℕ) (w : Opportunity)
    → option_map (window_at p number cycle rows) o ≡ Some w → window_at p number cycle rows w.minislot ≡ w
at_minislot p number cycle rows None w e = absurd (let none : ⊥ = cc in none)
at_minislot p number cycle rows (Some minislot) w e =
    let same : window_at p number cycle rows minislot ≡ w = same_some (window_at p number cycle rows minislot) w e in
    ap (window_at p number cycle rows) (sym (ap (λ (o : Opportunity). o.minislot) same)) ∙ same

in_cycle : (p : Parameters) (number cycle : ℕ) (rows : List Recorded) (w : Opportunity)
    → next_in_cycle p number cycle rows ≡ Some w → is_static w ≡ false
    → window_at p number cycle rows w.minislot ≡ w
in_cycle p number cycle rows w e dynamic = by (nat_lt (statics_of rows) p.static_slots) e
  where
    by : (b : Bool) → cond b (Some (static_window number cycle (statics_of rows + 1)))
        (next_dynamic p number cycle rows) ≡
        Some w → window_at p number cycle rows w.minislot ≡ w
    by true f = not_static number cycle (statics_of rows + 1) w f dynamic
    by false f = at_minislot p number cycle rows (find (opens_any p rows) (range_with_len 1 p.minislots)) w f

-- a dynamic window that follows a record
pub following_is : (p : Parameters) (cycles : ℕ) (rs : List Recorded) (w : Opportunity) → following p cycles rs ≡ Some w
    → is_static w ≡ false → window_at p (length rs) (cycle_of rs) (this_cycle rs) w.minislot ≡ w
following_is p cycles [] w e dynamic = not_first cycles 0 0 w e dynamic
following_is p cycles (r ∷ rs) w e dynamic =
    by (next_in_cycle p (length (r ∷ rs)) (cycle_of (r ∷ rs)) (this_cycle (r ∷ rs))) refl e
  where
    by : (o : Option Opportunity)
        → next_in_cycle p (length (r ∷ rs)) (cycle_of (r ∷ rs)) (this_cycle (r ∷ rs)) ≡ o
        → option_or o (first_of_cycle cycles (length (r ∷ rs)) (cycles_begun (r ∷ rs))) ≡ Some w
        → window_at p (length (r ∷ rs)) (cycle_of (r ∷ rs)) (this_cycle (r ∷ rs)) w.minislot ≡ w
    by None is f = not_first cycles (length (r ∷ rs)) (cycles_begun (r ∷ rs)) w f dynamic
    by (Some v) is f =
        in_cycle p (length (r ∷ rs)) (cycle_of (r ∷ rs)) (this_cycle (r ∷ rs)) w (is ∙ f) dynamic

-- ---- the row

-- the row after those of the cycle exists, and is that of the slot in the window
pub record IsNextRow (p : Parameters) (channel : Channel) (rows : List Recorded) (w : Opportunity) (slot : ℕ) : Type 0
  where
    pub exists : has_row_after p (counts_on channel rows) ≡ true
    pub begins : first_minislot p (counts_on channel rows) ≡ w.minislot
    pub slot_is : slot_after p (counts_on channel rows) ≡ slot

opened_is : (p : Parameters) (channel : Channel) (rows : List Recorded) (w : Opportunity) (slot : ℕ)
    → opened_on p channel rows w.minislot ≡ Some slot → IsNextRow p channel rows w slot
opened_is p channel rows w slot e =
    by (has_row_after p (counts_on channel rows)) (first_minislot p (counts_on channel rows) == w.minislot) refl refl e
  where
    by : (row at : Bool) → has_row_after p (counts_on channel rows) ≡ row
        → (first_minislot p (counts_on channel rows) == w.minislot) ≡ at
        → cond (row && at) (Some (slot_after p (counts_on channel rows))) None ≡ Some slot
        → IsNextRow p channel rows w slot
    by true true is here f = record {
      exists = is;
      begins = eqb-true (first_minislot p (counts_on channel rows)) w.minislot here;
      slot_is = same_some (slot_after p (counts_on channel rows)) slot f;
    }
    by true false is here f = absurd (let none : ⊥ = cc in none)
    by false at is here f = absurd (let none : ⊥ = cc in none)

window_opens : (p : Parameters) (number cycle minislot : ℕ) (rows : List Recorded) (channel : Channel)
    → slot_of (window_at p number cycle rows minislot) channel ≡ opened_on p channel rows minislot
window_opens p number cycle minislot rows A = refl
window_opens p number cycle minislot rows B = refl

-- a dynamic window that follows a record is the next row of the channel, in the cycle that began last
pub row_is : (p : Parameters) (cycles : ℕ) (rs : List Recorded) (w : Opportunity) (channel : Channel) (slot : ℕ)
    → following p cycles rs ≡ Some w → is_static w ≡ false → slot_of w channel ≡ Some slot
    → IsNextRow p channel (this_cycle rs) w slot
row_is p cycles rs w channel slot follows dynamic is =
    let same = following_is p cycles rs w follows dynamic in
    opened_is p channel (this_cycle rs) w slot
    (sym (window_opens p (length rs) (cycle_of rs) w.minislot (this_cycle rs) channel)
    ∙ ap (λ (o : Opportunity). slot_of o channel) same ∙ is)

pub cycle_is : (p : Parameters) (cycles : ℕ) (rs : List Recorded) (w : Opportunity)
    → following p cycles rs ≡ Some w → is_static w ≡ false → w.cycle ≡ cycle_of rs
cycle_is p cycles rs w follows dynamic =
    sym (ap (λ (o : Opportunity). o.cycle) (following_is p cycles rs w follows dynamic))
