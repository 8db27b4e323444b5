-- The number of the window that was sealed last tells how many were sealed.
use Rattle.std.proofs.Common.{◌≡◌, ℕ, ◌+◌, ◌-◌, ◌%◌, Bool, true, false, cond, List, [], ◌∷◌, length, take}
use Rattle.std.proofs.Common.{Option, Some, None, refl, sym, ap, ◌∙◌, arith, option_map}
use Rattle.std.proofs.lemmas.List.{length-take}
use Rattle.std.specs.List.{find, range_with_len}
use Rattle.std.specs.Option.{option_or}
use Rattle.std.specs.Prelude.{nat_lt, slice_get}
use Rattle.fr_bus.specs.Record.{Recorded}
use Rattle.fr_bus.specs.States.{IsRecorded}
use Rattle.fr_bus.specs.Windows.{cycles_begun, first_of_cycle, following, next_dynamic, next_in_cycle, opens_any}
use Rattle.fr_bus.specs.Windows.{statics_of, this_cycle, window_at}
use Rattle.fr_core.proofs.ScriptLemmas.{get_within}
use Rattle.fr_endless.specs.Answers.{windows_by}
use Rattle.fr_schedule.specs.Descriptions.{Description}
use Rattle.fr_slots.proofs.PlaceLemmas.{AllAfter-at, same_some}
use Rattle.fr_slots.specs.History.{AllAfter}
use Rattle.fr_slots.specs.Parameters.{Parameters}
use Rattle.fr_slots.specs.Windows.{Opportunity, static_window}

-- ---- the number of the next window

numbered : (number : ℕ) (v w : Opportunity) → v.number ≡ number → ◌≡◌ {A = Option Opportunity} (Some v) (Some w)
    → w.number ≡ number
numbered number v w is e = sym (ap (λ (o : Opportunity). o.number) (same_some v w e)) ∙ is

at_first : (cycles number begun : ℕ) (w : Opportunity) → first_of_cycle cycles number begun ≡ Some w
    → w.number ≡ number
at_first cycles number begun w e = by (nat_lt begun cycles) e
  where
    by : (b : Bool) → cond b (Some (static_window number (begun % 64) 1)) None ≡ Some w → w.number ≡ number
    by true f = numbered number (static_window number (begun % 64) 1) w refl f
    by false f = absurd (let none : ⊥ = cc in none)

dynamic : (p : Parameters) (number cycle : ℕ) (rows : List Recorded) (w : Opportunity) (o : Option ℕ)
    → option_map (window_at p number cycle rows) o ≡ Some w → w.number ≡ number
dynamic p number cycle rows w None e = absurd (let none : ⊥ = cc in none)
dynamic p number cycle rows w (Some minislot) e = numbered number (window_at p number cycle rows minislot) w refl e

in_cycle : (p : Parameters) (number cycle : ℕ) (rows : List Recorded) (w : Opportunity)
    → next_in_cycle p number cycle rows ≡ Some w → w.number ≡ number
in_cycle p number cycle rows w e = by (nat_lt (statics_of rows) p.static_slots) e
  where
    by : (b : Bool) → cond b (Some (static_window number cycle (statics_of rows + 1)))
        (next_dynamic p number cycle rows) ≡ Some w → w.number ≡ number
    by true f = numbered number (static_window number cycle (statics_of rows + 1)) w refl f
    by false f = dynamic p number cycle rows w (find (opens_any p rows) (range_with_len 1 p.minislots)) f

following_number : (p : Parameters) (cycles : ℕ) (rs : List Recorded) (w : Opportunity)
    → following p cycles rs ≡ Some w → w.number ≡ length rs
following_number p cycles [] w e = at_first cycles 0 0 w e
following_number p cycles (r ∷ rs) w e =
    by (next_in_cycle p (length (r ∷ rs)) ((cycles_begun (r ∷ rs) - 1) % 64) (this_cycle (r ∷ rs))) refl e
  where
    by : (o : Option Opportunity)
        → next_in_cycle p (length (r ∷ rs)) ((cycles_begun (r ∷ rs) - 1) % 64) (this_cycle (r ∷ rs)) ≡ o
        → option_or o (first_of_cycle cycles (length (r ∷ rs)) (cycles_begun (r ∷ rs))) ≡ Some w
        → w.number ≡ length (r ∷ rs)
    by None is f = at_first cycles (length (r ∷ rs)) (cycles_begun (r ∷ rs)) w f
    by (Some v) is f =
        in_cycle p (length (r ∷ rs)) ((cycles_begun (r ∷ rs) - 1) % 64) (this_cycle (r ∷ rs)) w (is ∙ f)

-- ---- the number of the last window

pub last_counts : (d : Description) (cycles : ℕ) (rs : List Recorded) → AllAfter (IsRecorded d cycles) [] rs
    → windows_by (slice_get rs (length rs - 1)) ≡ length rs
last_counts d cycles [] all = refl
last_counts d cycles (x ∷ xs) all =
    let rs = x ∷ xs in
    let last = length rs - 1 in
    let (r, at) = get_within rs last (omega arith) in
    let here : IsRecorded d cycles (take last rs) r = AllAfter-at (IsRecorded d cycles) rs last r all at in
    let number = following_number d.params cycles (take last rs) r.window here.0 in
    ap windows_by at ∙ omega (arith, number, length-take last rs)
