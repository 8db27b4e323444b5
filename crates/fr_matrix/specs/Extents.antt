-- A walk along the record marks the busy columns (project-defined).
use Rattle.std.specs.Prelude.{ℕ, ◌-◌, nat_lt, nat_le, Bool, true, ◌&&◌, List, slice_set, if◌then◌else◌}
use Rattle.fr_bus.specs.Record.{Recorded}
use Rattle.fr_matrix.specs.declared.view.View.{View}
use Rattle.fr_matrix.specs.Places.{has_row, has_sent}

-- the window is marked, if something was sent there on the channel, and it has a row and a place
abbrev pub has_mark : View → ℕ → ℕ → Recorded → Bool
has_mark v cycle column r =
    (has_row v cycle && has_sent v.channel r.sent)
    && (nat_le v.from_window column && nat_lt (column - v.from_window) 377)

abbrev pub with_mark : View → ℕ → ℕ → Recorded → List Bool → List Bool
with_mark v cycle column r busy =
    if has_mark v cycle column r then slice_set busy (column - v.from_window) true else busy
