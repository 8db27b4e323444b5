-- The places of a matrix: the row and the column of a window, those that are drawn, and the widths of the columns
-- (project-defined).
use Rattle.std.specs.Prelude.{ℕ, ◌+◌, ◌-◌, ◌*◌, ◌==◌, nat_lt, nat_le, Bool, false, ◌&&◌, ◌||◌, List, [], ◌∷◌, ◌++◌}
use Rattle.std.specs.Prelude.{length, map, max, min, sum_by, count_by, slice_index_or, if◌then◌else◌}
use Rattle.std.specs.List.{list_any, range_with_len}
use Rattle.fr_bus.specs.declared.outcome.Sent.{Sent}
use Rattle.fr_bus.specs.Record.{Recorded}
use Rattle.fr_bus.specs.Windows.{cycles_begun, this_cycle}
use Rattle.fr_matrix.specs.declared.grid.Grid.{Grid}
use Rattle.fr_matrix.specs.declared.view.View.{View}
use Rattle.fr_slots.specs.Admission.{is_channel}
use Rattle.fr_slots.specs.declared.channel.Channel.{Channel}
use Rattle.fr_slots.specs.History.{each_after}
use Rattle.fr_slots.specs.Parameters.{Parameters}

-- ---- the place of a window

-- the row of a window is its cycle of the run, its column the number of windows of that cycle before it
abbrev pub cycle_of : List Recorded → Recorded → ℕ
cycle_of before r = cycles_begun (before ++ r ∷ []) - 1

abbrev pub column_of : List Recorded → Recorded → ℕ
column_of before r = length (this_cycle (before ++ r ∷ [])) - 1

-- a matrix has at most 64 rows
abbrev pub has_row : View → ℕ → Bool
has_row v cycle = nat_le v.from cycle && nat_lt (cycle - v.from) 64

abbrev pub down : ℕ → ℕ
down row = 90 + 30 * row

-- ---- the extent of a record

-- 0 if there is none
unfoldable pub greatest : List ℕ → ℕ
greatest [] = 0
greatest (n ∷ ns) = max n (greatest ns)

abbrev pub drawn_count : View → List Recorded → Recorded → List ℕ
drawn_count v before r = if has_row v (cycle_of before r) then (column_of before r + 1) ∷ [] else []

-- the windows of the cycle with the most among those that have a row
abbrev pub most_drawn : View → List Recorded → ℕ
most_drawn v recorded = greatest (each_after (drawn_count v) [] recorded)

abbrev pub rows_in : View → List Recorded → ℕ
rows_in v recorded = min (cycles_begun recorded - v.from) 64

-- ---- the columns

abbrev pub is_on : Channel → Sent → Bool
is_on channel t = is_channel t.channel channel

-- something was sent on the channel, whatever came of it
abbrev pub has_sent : Channel → List Sent → Bool
has_sent channel sent = list_any (is_on channel) sent

abbrev pub busy_column : View → List Recorded → Recorded → List ℕ
busy_column v before r =
    if has_row v (cycle_of before r) && has_sent v.channel r.sent then column_of before r ∷ [] else []

-- something was sent on the channel in a window of the column that has a row
abbrev pub is_busy : View → List Recorded → ℕ → Bool
is_busy v recorded column = list_any (λ n. n == column) (each_after (busy_column v) [] recorded)

-- The columns from the first one of the view on. The place of a column is the number of these before it.
abbrev pub grid_of : Parameters → View → List Recorded → Grid
grid_of p v recorded = record {
  static_slots = p.static_slots;
  first = v.from_window;
  busy = map (is_busy v recorded) (range_with_len v.from_window 377);
}

-- the column of a static slot
abbrev pub is_headed : Grid → ℕ → Bool
is_headed g place = nat_lt (g.first + place) g.static_slots

-- a column is narrow if its windows are dynamic, and nothing was sent in any row
abbrev pub is_wide : Grid → ℕ → Bool
is_wide g place = is_headed g place || slice_index_or g.busy place false

abbrev pub step : Grid → ℕ → ℕ
step g place = if is_wide g place then 22 else 4

abbrev pub across : Grid → ℕ → ℕ
across g place = 70 + sum_by (step g) (range_with_len 0 place)

-- a column is drawn if it ends at most 1,580 from the left, so that a matrix is at most 1,600 wide
abbrev pub fits : Grid → ℕ → Bool
fits g place = nat_le (across g (place + 1)) 1580

-- the number of columns that are drawn, if the longest cycle has as many windows
abbrev pub columns_in : Grid → ℕ → ℕ
columns_in g most = count_by (fits g) (range_with_len 0 (min (most - g.first) 377))

abbrev pub is_drawn : View → ℕ → ℕ → ℕ → Bool
is_drawn v columns cycle column =
    has_row v cycle && nat_le v.from_window column && nat_lt (column - v.from_window) columns
