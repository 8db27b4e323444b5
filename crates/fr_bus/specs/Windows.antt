-- The windows of a run, each by the record before it (chapter 5; windows and their numbers are project-defined).
use Rattle.std.specs.Prelude.{ℕ, ◌+◌, ◌-◌, ◌%◌, nat_lt, not, min, Bool, ◌&&◌, ◌||◌, List, [], ◌∷◌, ◌++◌}
use Rattle.std.specs.Prelude.{length, map, count_by, Option, Some, None, is_some, option_map, if◌then◌else◌}
use Rattle.std.specs.List.{filter, find, fold, range_with_len}
use Rattle.std.specs.Option.{option_or}
use Rattle.fr_bus.specs.Outcome.{longest}
use Rattle.fr_bus.specs.Record.{Recorded}
use Rattle.fr_minislot.specs.DynamicRows.{opened_after}
use Rattle.fr_slots.specs.declared.channel.Channel.{Channel}
use Rattle.fr_slots.specs.declared.channel.Channel.TheVariants.{A, B}
use Rattle.fr_slots.specs.Parameters.{Parameters}
use Rattle.fr_slots.specs.Windows.{Opportunity, slot_of, is_static, static_window, opens_cycle}

-- ---- cycles of a run

abbrev pub begins_cycle : Recorded → Bool
begins_cycle r = opens_cycle r.window

abbrev pub cycles_begun : List Recorded → ℕ
cycles_begun rs = count_by begins_cycle rs

abbrev pub with_window : List Recorded → Recorded → List Recorded
with_window cycle r = if begins_cycle r then r ∷ [] else cycle ++ r ∷ []

-- the windows of the cycle that began last
abbrev pub this_cycle : List Recorded → List Recorded
this_cycle rs = fold with_window [] rs

-- ---- the rows of a channel

-- a dynamic window with a slot on the channel is one of the channel's rows
abbrev pub has_row : Channel → Opportunity → Bool
has_row channel w = not (is_static w) && is_some (slot_of w channel)

abbrev pub is_row_of : Channel → Recorded → Bool
is_row_of channel r = has_row channel r.window

-- the byte counts of a channel's rows: for each, the greatest one that passed
abbrev pub counts_on : Channel → List Recorded → List ℕ
counts_on channel cycle = map (λ (r : Recorded). longest channel r.sent) (filter (is_row_of channel) cycle)

abbrev pub opened_on : Parameters → Channel → List Recorded → ℕ → Option ℕ
opened_on p channel cycle minislot = opened_after p (counts_on channel cycle) minislot

-- ---- the window that follows those of a record

abbrev pub opens_any : Parameters → List Recorded → ℕ → Bool
opens_any p cycle minislot = is_some (opened_on p A cycle minislot) || is_some (opened_on p B cycle minislot)

abbrev pub window_at : Parameters → ℕ → ℕ → List Recorded → ℕ → Opportunity
window_at p number cycle rows minislot =
    record {
      number = number;
      cycle = cycle;
      minislot = minislot;
      a = opened_on p A rows minislot;
      b = opened_on p B rows minislot;
    }

-- the window of the first minislot at which a channel opens a slot
abbrev pub next_dynamic : Parameters → ℕ → ℕ → List Recorded → Option Opportunity
next_dynamic p number cycle rows =
    option_map (window_at p number cycle rows) (find (opens_any p rows) (range_with_len 1 p.minislots))

abbrev pub is_static_one : Recorded → Bool
is_static_one r = is_static r.window

-- the number of static windows
abbrev pub statics_of : List Recorded → ℕ
statics_of done = count_by is_static_one done

-- the static slots in their order, then the minislots
abbrev pub next_in_cycle : Parameters → ℕ → ℕ → List Recorded → Option Opportunity
next_in_cycle p number cycle done =
    if nat_lt (statics_of done) p.static_slots then Some (static_window number cycle (statics_of done + 1))
    else next_dynamic p number cycle done

abbrev pub first_of_cycle : ℕ → ℕ → ℕ → Option Opportunity
first_of_cycle cycles number begun = if nat_lt begun cycles then Some (static_window number (begun % 64) 1) else None

-- The next window of the cycle that began last. If there is none, the first window of the next cycle, if the run has
-- one.
abbrev pub following : Parameters → ℕ → List Recorded → Option Opportunity
following p cycles [] = first_of_cycle cycles 0 0
following p cycles (r ∷ rs) =
    option_or
    (next_in_cycle p (length (r ∷ rs)) ((cycles_begun (r ∷ rs) - 1) % 64) (this_cycle (r ∷ rs)))
    (first_of_cycle cycles (length (r ∷ rs)) (cycles_begun (r ∷ rs)))

-- ---- the same by two lanes

-- the lesser of two numbers, each of which may be absent
abbrev pub least_of : Option ℕ → Option ℕ → Option ℕ
least_of None y = y
least_of (Some x) None = Some x
least_of (Some x) (Some y) = Some (min x y)
