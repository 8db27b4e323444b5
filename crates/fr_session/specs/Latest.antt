-- The last frame that `receive` returned of each receive buffer, by the entry that observed it (project-defined).
use Rattle.std.specs.Prelude.{ℕ, ◌+◌, ◌*◌, ◌==◌, not, Bool, true, false, List, Option, Some, None, replicate}
use Rattle.std.specs.Prelude.{slice_index_or, slice_set}
use Rattle.fr_journal.specs.declared.entry.Arrival.{Arrival}

-- nodes 0 to 15 have 64 places each, one for each buffer
abbrev pub place_of : ℕ → ℕ → ℕ
place_of node buffer = node * 64 + buffer

-- no frame was returned yet
abbrev pub no_entries : List (Option ℕ)
no_entries = replicate 1024 None

abbrev pub last_entry : List (Option ℕ) → ℕ → Option ℕ
last_entry latest place = slice_index_or latest place None

-- a frame from this entry is new, unless the last one came from it
abbrev pub is_new : Option ℕ → ℕ → Bool
is_new None entry = true
is_new (Some last) entry = not (last == entry)

-- whether there is a frame that is new at this place
abbrev pub is_fresh : List (Option ℕ) → ℕ → Option Arrival → Bool
is_fresh latest place None = false
is_fresh latest place (Some arrival) = is_new (last_entry latest place) arrival.origin.entry

-- a frame that was returned is the last one of its place
abbrev pub with_arrival : List (Option ℕ) → ℕ → Option Arrival → List (Option ℕ)
with_arrival latest place None = latest
with_arrival latest place (Some arrival) = slice_set latest place (Some arrival.origin.entry)
